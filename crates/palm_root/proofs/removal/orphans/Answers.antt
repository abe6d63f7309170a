use Rattle.std.proofs.Common.{ap, sym, ◌∙◌, length, subst}
use Rattle.std.specs.List.Sorted.{IsPermutation}
use Rattle.palm_arena.specs.Reads.{map_of}
use Rattle.palm_root.proofs.Sweeping.{swept_none, swept_owned, sorted_orphans, written_back}
use Rattle.palm_root.proofs.removal.orphans.Goals as goal

pub returns-clause-rows : goal.returns-clause-rows
returns-clause-rows c p others is holds =
    let old = map_of c.args.arena.now.places in
    let swept = c.in_ok-sweep_all.ensures.swept holds.kept others (c.as_slice-2.ensures ∙ holds.removed) (swept_none _ others old c.args.changes.now c.in_ok-rows.rows.items holds) in
    let same : IsPermutation c.sweep_all.new.rows.items c.sort_rows.new.rows = subst (λ rs. IsPermutation rs c.sort_rows.new.rows) c.deref_mut.ensures.value c.sort_rows.ensures.same in
    let len = c.sort_rows.ensures.len ∙ ap length c.deref_mut.ensures.value in
    c.from_vec.ensures ∙ written_back c.sweep_all.new.rows.len c.sort_rows.new.rows c.sweep_all.new.rows.items (sym (ap length c.deref_mut.ensures.value) ∙ c.deref_mut.ensures.len) len
    ∙ sorted_orphans p others old (map_of c.sweep_all.new.arena.places) c.args.changes.now c.in_ok-rows.rows.items c.sweep_all.new.rows.items c.sort_rows.new.rows is holds (c.in_ok-rows.ensures.items ∙ c.as_slice.ensures) swept same c.sort_rows.ensures.sorted

pub returns-clause-dropped : goal.returns-clause-dropped
returns-clause-dropped c loose others holds =
    let old = map_of c.args.arena.now.places in
    swept_owned (map_of c.sweep_all.new.arena.places) c.in_ok-rows.rows.items c.sweep_all.new.rows.items holds.kept others
    (c.in_ok-sweep_all.ensures.swept holds.kept others (c.as_slice-2.ensures ∙ holds.removed) (swept_none loose others old c.args.changes.now c.in_ok-rows.rows.items holds))
