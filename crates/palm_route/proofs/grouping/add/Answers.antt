use Rattle.std.proofs.Common.{◌++◌, ◌∷◌, [], List, refl, ap, arith, ◌∙◌}
use Rattle.palm_route.specs.declared.part.Group.{Group}
use Rattle.palm_route.proofs.AddedParts.{last_grows, last_other, set_back, first_alone}
use Rattle.palm_route.proofs.grouping.add.Goals as goal
use Rattle.palm_route.proofs.grouping.add.Goals.{in-Some+else-last-routed, in_default}

pub returns-then-last-routed : goal.returns-then-last-routed
returns-then-last-routed c =
    let some = c.in-Some.ensures.variant.0 refl in
    let len = c.args.groups.now.ok.0 in
    record {
      ok = last_grows c.args.groups.now.items _ c.in-Some.last.now _ c.args.routed.now (omega (arith, some, len)) c.in-Some.ensures.value c.if-last-routed.true
          (rw (c.in_ok-push.ensures.ok, c.copy.ensures) refl);
    }

pub returns : goal.returns
returns c =
    let len = c.args.groups.now.ok.0 in
    let alone = λ (old : List Group). old ++ c.in_ok-group_of.field-0 ∷ [] in
    let new = ap (λ (group : Group). c.args.groups.now.items ++ group ∷ []) c.in_ok-group_of.ensures in
    record {
      ok = c.in_ok-push-2.ensures.items ∙ elim c.match-last_mut.branch [
        | in-Some+else-last-routed w ↦
            let some = w.in-Some.ensures.variant.0 refl in
            ap (λ v. alone v.items) w.groups-is ∙ ap alone (set_back c.args.groups.now.items _ w.in-Some.last.now w.in-Some.ensures.value) ∙ new
            ∙ last_other c.args.groups.now.items _ w.in-Some.last.now c.args.routed.now (omega (arith, some, len)) w.in-Some.ensures.value w.if-last-routed.false
        | in_default w ↦
            let none = w.in_default.ensures.variant.1 in
            ap (λ v. alone v.items) w.groups-is ∙ new ∙ first_alone c.args.groups.now.items c.args.routed.now (λ some. let e = none (omega (arith, some, len)) in cc)
      ];
    }
