use Rattle.std.proofs.Common.{◌≡◌, ◌+◌, ◌-◌, ◌*◌, ◌/◌, ◌%◌, ◌^◌, sym, ap, ◌∙◌, take}
use Rattle.palm_base.specs.Prefix.{IsPrefix}
use Rattle.palm_base.specs.Key.{key, digits_of}
use Rattle.palm_base.proofs.Keys.{is_key, digits_of-key}
use Rattle.palm_base.proofs.Fronts.{front-is_prefix, front-key}
use Rattle.palm_base.proofs.digits.Digits.front.Goals as goal

own : (c : goal.After-from) → IsPrefix c.args.self.now
own c = rw c.self.view_is at c.self.invariant.prefix

front : (c : goal.After-from) → IsPrefix (take c.args.n c.args.self.now)
front c = front-is_prefix c.args.n c.args.self.now (own c) c.requires.least c.requires.most

packs : (c : goal.After-from) → c.self.inside.word / 2 ^ (64 - 4 * c.args.n) * 2 ^ (64 - 4 * c.args.n) % 2 ^ 64 + c.from.result ≡ key (take c.args.n c.args.self.now)
packs c =
    let word : key c.args.self.now ≡ c.self.inside.word = ap key (sym c.self.view_is) ∙ c.self.invariant.whole in
    rw (c.from.ensures, ← word) (front-key c.args.n c.args.self.now (own c) c.requires.least c.requires.most)

pub invariant_of-result : goal.invariant_of-result
invariant_of-result c = is_key _ (take c.args.n c.args.self.now) (front c) (packs c)

pub returns : goal.returns
returns c = ap digits_of (packs c) ∙ digits_of-key (take c.args.n c.args.self.now) (front c)
