-- What a field gives where it is good, and else its fault: the two cases of such a result.
use Rattle.std.proofs.Common.{◌≡◌, Bool, true, false, cond, Ok, Err, refl, subst}
use Rattle.std.specs.Prelude.{is_ok, is_err, IfOk, IfErr}
use Rattle.std.proofs.lemmas.Bool.{false≢true}
use Rattle.palm_script.specs.declared.line.LineWhy.{LineWhy}

pub when_ok : {X : Type 0} (good : Bool) (x y : X) (why : LineWhy) → Ok y ≡ cond good (Ok x) (Err why) → (good ≡ true) × (y ≡ x)
when_ok true x y why e = (refl, subst (λ r. IfOk r (λ z. y ≡ z)) e refl)
when_ok false x y why e = absurd (false≢true (subst (λ r. is_ok r ≡ true) e refl))

pub when_err : {X : Type 0} (good : Bool) (x : X) (why fault : LineWhy) → Err fault ≡ cond good (Ok x) (Err why) → (good ≡ false) × (fault ≡ why)
when_err true x why fault e = absurd (false≢true (subst (λ r. is_err r ≡ true) e refl))
when_err false x why fault e = (refl, subst (λ r. IfErr r (λ z. fault ≡ z)) e refl)
