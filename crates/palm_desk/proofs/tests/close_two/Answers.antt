use Rattle.std.proofs.Common.{◌≡◌, refl, ℕ, zero, suc, ◌<◌, ◌++◌, List, [], ◌∷◌, length, ap, ◌∙◌, subst, sym, arith}
use Rattle.std.specs.Prelude.{Any}
use Rattle.palm_desk.specs.Seats.{CallerState, DeskState}
use Rattle.palm_desk.proofs.tests.close_two.Goals as goal

-- Of two callers' seats each is there.
each_of_two : (first second : CallerState) → first.caller ≡ 0 → second.caller ≡ 1 → (c : ℕ) → c < 2 → Any (λ s. s.caller ≡ c) (first ∷ second ∷ [])
each_of_two first second one two zero less = (0, first, omega arith, refl, one)
each_of_two first second one two (suc zero) less = (1, second, omega arith, refl, two)
each_of_two first second one two (suc (suc c)) less = absurd (omega arith)

pub close-requires-clause-each : goal.close-requires-clause-each
close-requires-clause-each c n less =
    let items : c.push-2.new.self.items ≡ c.args.first ∷ c.args.second ∷ [] = c.in_ok-push-2.ensures.items
    ∙ ap (λ (l : List CallerState). l ++ c.args.second ∷ []) (c.in_ok-push.ensures.items ∙ ap (λ (l : List CallerState). l ++ c.args.first ∷ []) c.requires.none) in
    let many : n < 2 = omega (arith, less, ap (λ (d : DeskState). length d.terms.firsts) c.requires.driver.0, c.requires.driver.1) in
    subst (Any (λ s. s.caller ≡ n)) (sym items) (each_of_two c.args.first c.args.second c.requires.first.1 c.requires.second.1 n many)
