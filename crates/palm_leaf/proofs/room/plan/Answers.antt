use Rattle.std.proofs.Common.{◌≡◌, ◌≤◌, ◌+◌, ◌∙◌, sym, ap, arith, map, refl, subst, vec_capacity}
use Rattle.std.specs.List.{AllByRecursion}
use Rattle.palm_base.specs.Cut.{piece_count}
use Rattle.palm_base.specs.declared.bounds.TheConstants.{MOST_LEAF_ROWS}
use Rattle.palm_leaf.specs.Asked.{set_count, part_of, HasRoom}
use Rattle.palm_leaf.proofs.PlanRoom.{all_open}
use Rattle.palm_leaf.proofs.room.plan.Goals as goal

pub returns-clause-plan : goal.returns-clause-plan
returns-clause-plan c =
    let asked = c.in_ok-asked.asked in
    let most : c.in_ok-most.most ≡ c.args.held + set_count (map part_of asked.items) = c.in_ok-most.ensures ∙ ap (λ parts. c.args.held + set_count parts) (sym c.in_ok-asked.ensures.parts) in
    let counted : piece_count MOST_LEAF_ROWS c.in_ok-most.most ≤ vec_capacity c.in_ok-later.later + 1 = omega (arith, c.pieces.ensures, c.in_ok-later.ensures.capacity) in
    record {
      no_rows = c.in_ok-rows.ensures.items;
      no_later = c.in_ok-later.ensures.items;
      row_room = λ listed. omega (arith, most, c.in_ok-rows.ensures.capacity, c.row_room.ensures.room listed);
      fits = λ fits.
          let all = rw c.deref.ensures.value at (c.fits-fits.ensures fits) in
          (all.0, all.1, all.2, omega (arith, most, all.3));
      later_room = subst (λ n. piece_count MOST_LEAF_ROWS n ≤ vec_capacity c.in_ok-later.later + 1) most counted;
      not_kept = refl;
      waits = all_open _ asked.items c.args.group.now.parts (c.in_ok-asked.ensures.parts ∙ c.as_slice-parts.ensures) c.requires (subst (λ n. AllByRecursion (HasRoom n) asked.items) most c.in_ok-asked.ensures.room);
    }
