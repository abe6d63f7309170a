use Rattle.std.proofs.Common.{◌≡◌, ◌<◌, ◌+◌, ◌*◌, ◌-◌, ◌^◌, ap, ◌∙◌, length, drop, arith}
use Rattle.std.proofs.lemmas.List.Elements.{recursion_from_All}
use Rattle.palm_base.specs.Prefix.{IsPrefix, digits_in}
use Rattle.palm_base.specs.Key.{packed, key, digits_of}
use Rattle.palm_base.proofs.Keys.{packed_more, packed_all, packed-fits, weight_more, prefix_of_text, digits_of-key, is_key}
use Rattle.palm_base.proofs.digits.Digits.from_digits.Goals as goal

prefix : (c : goal.After-from) → IsPrefix (digits_in c.args.text.now)
prefix c = prefix_of_text c.args.text.now c.requires.least c.requires.few (recursion_from_All _ c.args.text.now c.requires.digits)

more : (c : goal.After-from)
    → (c.loop-b.word + c.from.result * c.loop-b.weight) + packed (15 - (c.loop-b.b-index + 1)) (digits_in (drop (c.loop-b.b-index + 1) c.args.text.now)) * 16 ≡ packed 15 (digits_in c.args.text.now) * 16
more c =
    packed_more c.args.text.now c.loop-b.b-index c.loop-b.word c.loop-b.weight c.from.result _ c.loop-b-test.true c.requires.few c.from.ensures c.loop-b.invariant.weight c.loop-b.invariant.packed

fits : (c : goal.After-from) → c.loop-b.word + c.from.result * c.loop-b.weight < 2 ^ 64
fits c = omega (arith, more c, packed-fits (digits_in c.args.text.now) (prefix c).small (prefix c).few)

pub overflow_mul-word : goal.overflow_mul-word
overflow_mul-word c = omega (arith, fits c)

pub overflow_add-word : goal.overflow_add-word
overflow_add-word c = omega (arith, fits c)

pub loop-b-preserved : goal.loop-b-preserved
loop-b-preserved c = record {
  weight = weight_more c.loop-b.b-index c.loop-b.weight (omega (arith, c.requires.few)) c.loop-b.invariant.weight;
  packed = more c;
}

whole : (c : goal.After-loop-b) → c.loop-b.word + length c.args.text.now ≡ key (digits_in c.args.text.now)
whole c = packed_all c.args.text.now c.loop-b.b-index c.loop-b.word c.loop-b-test.false c.loop-b.invariant.packed

spelled : (c : goal.After-loop-b) → IsPrefix (digits_in c.args.text.now)
spelled c = prefix_of_text c.args.text.now c.requires.least c.requires.few (recursion_from_All _ c.args.text.now c.requires.digits)

pub invariant_of-result : goal.invariant_of-result
invariant_of-result c = is_key _ (digits_in c.args.text.now) (spelled c) (whole c)

pub returns : goal.returns
returns c = ap digits_of (whole c) ∙ digits_of-key (digits_in c.args.text.now) (spelled c)
