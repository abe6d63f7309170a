use Rattle.std.proofs.Common.{◌≡◌, length, subst, ap, ◌∙◌}
use Rattle.std.specs.List.Sorted.{IsPermutation, IsStableByKey}
use Rattle.std.specs.Ordering.{nat_cmp}
use Rattle.std.proofs.lemmas.Result.{IfOk-weaker}
use Rattle.palm_route.specs.Marks.{marks_from}
use Rattle.palm_route.proofs.MarkedParts.{marks_within}
use Rattle.palm_share.proofs.RunItems.{whole_written}
use Rattle.palm_route.proofs.SortedParts.{low_of, grouped}
use Rattle.palm_route.proofs.grouping.group.Goals as goal

pub runs-requires : goal.runs-requires
runs-requires g c =
    let old = c.in_ok-marks.marks in
    let new = c.sort.new.marks in
    let made : c.as_mut_slice.result.now ≡ marks_from 0 c.args.routed = c.as_mut_slice.ensures.value ∙ c.in_ok-marks.ensures ∙ ap (marks_from 0) c.as_slice.ensures in
    let whole : c.as_slice-3.result.now ≡ new = c.as_slice-3.ensures.value ∙ whole_written old.items new old.len old.ok.0 (c.in_ok-sort.ensures.len ∙ ap length c.as_mut_slice.ensures.value) in
    let moved : IsPermutation (marks_from 0 c.args.routed) new = subst (λ l. IsPermutation l new) made c.in_ok-sort.ensures.permutation in
    rw (whole, c.as_slice-2.ensures) (marks_within c.args.routed new moved)

pub returns : goal.returns
returns g c =
    let old = c.in_ok-marks.marks in
    let new = c.sort.new.marks in
    let done = c.in_ok-sort.ensures in
    let made : c.as_mut_slice.result.now ≡ marks_from 0 c.args.routed = c.as_mut_slice.ensures.value ∙ c.in_ok-marks.ensures ∙ ap (marks_from 0) c.as_slice.ensures in
    let whole : c.as_slice-3.result.now ≡ new = c.as_slice-3.ensures.value ∙ whole_written old.items new old.len old.ok.0 (done.len ∙ ap length c.as_mut_slice.ensures.value) in
    let moved : IsPermutation (marks_from 0 c.args.routed) new = subst (λ l. IsPermutation l new) made done.permutation in
    let stable : IsStableByKey low_of nat_cmp (marks_from 0 c.args.routed) new = subst (λ l. IsStableByKey low_of nat_cmp l new) made done.stable in
    IfOk-weaker c.runs.result _ _
    (λ groups are places up all. are ∙ rw (whole, c.as_slice-2.ensures) (grouped c.args.routed new moved done.sorted stable places up all))
    c.runs.ensures
