use Rattle.std.proofs.Common.{arith, ap, ◌∙◌, sym, subst, ◌≡◌, ◌<◌, length, map, List, []}
use Rattle.std.specs.List.{AllByRecursion}
use Rattle.palm_node.specs.declared.change.Change.{Change}
use Rattle.palm_node.specs.declared.change.Changes.{Changes}
use Rattle.palm_arena.specs.Reads.{map_of}
use Rattle.palm_arena.proofs.ListParts.{map_map}
use Rattle.palm_level.specs.Runs.{runs}
use Rattle.palm_level.specs.Groups.{Touched, touched_of}
use Rattle.palm_level.specs.Plans.{Fits, planned_key}
use Rattle.palm_level.specs.Tasks.{Distinct, planned_id, HasWorked}
use Rattle.palm_level.proofs.Bounds.{made_within, takes_few}
use Rattle.palm_level.proofs.LevelFits.{level_fits}
use Rattle.palm_level.proofs.level.change_level.Goals as goal

pub plan_all-requires-clause-paths : goal.plan_all-requires-clause-paths
plan_all-requires-clause-paths g c =
    let s = c.requires.stands in
    subst (AllByRecursion (λ (change : Change). 0 < length change.path)) (sym c.as_slice.ensures)
    (level_fits s.0 c.args.level c.args.shape.levels (map_of c.args.arena.now.places) c.args.changes.now c.requires.level.0 c.requires.level.1 s.1 s.2).paths

pub plan_all-requires-clause-fits : goal.plan_all-requires-clause-fits
plan_all-requires-clause-fits g c =
    let s = c.requires.stands in
    subst (λ (cs : List Change). AllByRecursion (Fits (map_of c.args.arena.now.places)) (runs cs)) (sym c.as_slice.ensures)
    (level_fits s.0 c.args.level c.args.shape.levels (map_of c.args.arena.now.places) c.args.changes.now c.requires.level.0 c.requires.level.1 s.1 s.2).fits

pub work_all-worked-requires-clause-distinct : goal.work_all-worked-requires-clause-distinct
work_all-worked-requires-clause-distinct g c κs within =
    let s = c.requires.stands in
    let keys : map planned_key c.in_ok-planned.planned.items ≡ map (touched_of (map_of c.args.arena.now.places)) (runs c.args.changes.now.nodes) =
    c.in_ok-planned.ensures.parents ∙ ap (λ (cs : List Change). map (touched_of (map_of c.args.arena.now.places)) (runs cs)) c.as_slice.ensures in
    let ids : map (λ (t : Touched). t.id) (map planned_key c.in_ok-planned.planned.items) ≡ map planned_id c.in_ok-planned.planned.items = map_map planned_key (λ (t : Touched). t.id) c.in_ok-planned.planned.items in
    subst Distinct (ap (map (λ (t : Touched). t.id)) (sym keys) ∙ ids)
    (level_fits s.0 c.args.level c.args.shape.levels (map_of c.args.arena.now.places) c.args.changes.now c.requires.level.0 c.requires.level.1 s.1 s.2).once

pub returns-in-Ok-clause-stands : goal.returns-in-Ok-clause-stands
returns-in-Ok-clause-stands g c = λ p levels s.
    let nodes = map_of c.args.arena.now.places in
    let keys : map planned_key c.in_ok-planned.planned.items ≡ map (touched_of nodes) (runs c.args.changes.now.nodes) =
    c.in_ok-planned.ensures.parents ∙ ap (λ (cs : List Change). map (touched_of nodes) (runs cs)) c.as_slice.ensures in
    let removed = c.from_vec-2.ensures ∙ c.in_ok-from_slice.ensures.items ∙ c.as_slice-2.ensures in
    let start : ◌≡◌ {A = Changes} (record { nodes = c.from_vec.result; loose = c.in_ok-try_copy.field-0; removed = c.from_vec-2.result }) (record { nodes = []; loose = c.args.changes.now.loose; removed = c.args.changes.now.removed }) =
    (λ i. record { nodes = (c.from_vec.ensures ∙ c.in_ok-with_capacity.ensures.items) i; loose = c.in_ok-try_copy.ensures i; removed = removed i }) in
    (level_fits p c.args.level c.args.shape.levels nodes c.args.changes.now c.requires.level.0 c.requires.level.1 levels s).stands
    (map_of c.work_all-worked.new.arena.places) _ c.work_all-worked.new.made start
    (subst (λ ts. HasWorked nodes c.args.level ts (map_of c.work_all-worked.new.arena.places) (record { nodes = c.from_vec.result; loose = c.in_ok-try_copy.field-0; removed = c.from_vec-2.result }) c.work_all-worked.new.made) keys c.in-Ok.ensures.ok)

pub returns-in-Ok-clause-within : goal.returns-in-Ok-clause-within
returns-in-Ok-clause-within g c = λ n within.
    let nodes = map_of c.args.arena.now.places in
    let s = c.requires.stands in
    let keys : map planned_key c.in_ok-planned.planned.items ≡ map (touched_of nodes) (runs c.args.changes.now.nodes) =
    c.in_ok-planned.ensures.parents ∙ ap (λ (cs : List Change). map (touched_of nodes) (runs cs)) c.as_slice.ensures in
    made_within n c.args.level nodes (map_of c.work_all-worked.new.arena.places) c.args.changes.now (record { nodes = c.from_vec.result; loose = c.in_ok-try_copy.field-0; removed = c.from_vec-2.result }) c.work_all-worked.new.made (c.from_vec.ensures ∙ c.in_ok-with_capacity.ensures.items)
    (subst (λ ts. HasWorked nodes c.args.level ts (map_of c.work_all-worked.new.arena.places) (record { nodes = c.from_vec.result; loose = c.in_ok-try_copy.field-0; removed = c.from_vec-2.result }) c.work_all-worked.new.made) keys c.in-Ok.ensures.ok)
    ((level_fits s.0 c.args.level c.args.shape.levels nodes c.args.changes.now c.requires.level.0 c.requires.level.1 s.1 s.2).few n within)

pub returns-in-Ok-clause-ticks : goal.returns-in-Ok-clause-ticks
returns-in-Ok-clause-ticks g c = λ n within.
    let nodes = map_of c.args.arena.now.places in
    let s = c.requires.stands in
    let keys : map planned_key c.in_ok-planned.planned.items ≡ map (touched_of nodes) (runs c.args.changes.now.nodes) =
    c.in_ok-planned.ensures.parents ∙ ap (λ (cs : List Change). map (touched_of nodes) (runs cs)) c.as_slice.ensures in
    takes_few n nodes c.in_ok-planned.planned.items (runs c.args.changes.now.nodes) c.args.steps.now c.work_all-worked.new.steps keys
    ((level_fits s.0 c.args.level c.args.shape.levels nodes c.args.changes.now c.requires.level.0 c.requires.level.1 s.1 s.2).few n within)
    (omega (arith, c.work_all-worked.ensures.ticks))

pub returns-in-Err-clause-ticks : goal.returns-in-Err-clause-ticks
returns-in-Err-clause-ticks g c = λ n within.
    let nodes = map_of c.args.arena.now.places in
    let s = c.requires.stands in
    let keys : map planned_key c.in_ok-planned.planned.items ≡ map (touched_of nodes) (runs c.args.changes.now.nodes) =
    c.in_ok-planned.ensures.parents ∙ ap (λ (cs : List Change). map (touched_of nodes) (runs cs)) c.as_slice.ensures in
    takes_few n nodes c.in_ok-planned.planned.items (runs c.args.changes.now.nodes) c.args.steps.now c.work_all-worked.new.steps keys
    ((level_fits s.0 c.args.level c.args.shape.levels nodes c.args.changes.now c.requires.level.0 c.requires.level.1 s.1 s.2).few n within)
    (omega (arith, c.work_all-worked.ensures.ticks))
