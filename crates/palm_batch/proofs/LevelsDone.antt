-- The levels of a pass, from the leaves' changes up to those below the root.
use Rattle.std.proofs.Common.{◌≡◌, ℕ, zero, suc, ◌+◌, ◌-◌, ◌*◌, ◌≤◌, ◌<◌, length, refl, ◌∙◌, subst, arith, ◌⊎◌, inl, inr}
use Rattle.std.proofs.Math.Nat.{mul-le-mul_left, mul-suc}
use Rattle.palm_node.specs.declared.change.Changes.{Changes}
use Rattle.palm_arena.specs.ArenaState.{ArenaState, NoneLent}
use Rattle.palm_arena.specs.Passes.{Pass, StandsAt, IsWithin}
use Rattle.palm_arena.specs.Reads.{map_of}
use Rattle.palm_arena.specs.declared.shape.Shape.{Shape}
use Rattle.palm_root.specs.Roots.{level_below}

-- The levels below `level` are done.
pub record LevelsDone (old : ArenaState) (shape : Shape) (leaves : Changes) (before level : ℕ) (now : ArenaState) (changes : Changes) (after : ℕ) : Type 0 where
  pub stands : (p : Pass) → shape.levels ≡ suc p.tree.0 → StandsAt p 1 (map_of old.places) leaves → StandsAt p (level - 1) (map_of now.places) changes
  pub begun : now.begun ≡ old.begun
  pub none_lent : NoneLent now.places
  pub within : (n : ℕ) → IsWithin n leaves → IsWithin n changes
  pub ticks : (n : ℕ) → IsWithin n leaves → after ≤ before + 2 * n * (level - 2)
  pub moved : length now.moved + before ≤ length old.moved + after
  pub least : 2 ≤ level
  pub most : (level ≤ shape.levels) ⊎ (level ≡ 2)

pub levels_start : (old : ArenaState) (shape : Shape) (leaves : Changes) (before : ℕ) → NoneLent old.places → LevelsDone old shape leaves before 2 old leaves before
levels_start old shape leaves before none = record {
  stands = λ p levels stands. stands;
  begun = refl;
  none_lent = none;
  within = λ n is. is;
  ticks = λ n is. omega arith;
  moved = omega arith;
  least = omega arith;
  most = inr refl;
}

-- One level more takes one more share of the steps.
step_more : (n level levels before after later : ℕ) → 2 ≤ level → level < levels → after ≤ before + 2 * n * (level - 2) → later ≤ after + 2 * n → later ≤ before + 2 * n * (levels - 2)
step_more n level levels before after later least less ticks more =
    let wide : 2 * n * suc (level - 2) ≤ 2 * n * (levels - 2) = mul-le-mul_left (2 * n) (omega (arith, least, less)) in
    let split : 2 * n * suc (level - 2) ≡ 2 * n * (level - 2) + 2 * n = mul-suc (2 * n) (level - 2) in
    rest (2 * n) (2 * n * (level - 2)) (2 * n * suc (level - 2)) (2 * n * (levels - 2)) ticks more wide split
  where
    rest : (m x y z : ℕ) → after ≤ before + x → later ≤ after + m → y ≤ z → y ≡ x + m → later ≤ before + z
    rest m x y z a b c d = omega (arith, a, b, c, d)

pub levels_refused : (old : ArenaState) (shape : Shape) (leaves : Changes) (before level : ℕ) (now : ArenaState) (changes : Changes) (after later n : ℕ) → LevelsDone old shape leaves before level now changes after
    → level < shape.levels → ((n : ℕ) → IsWithin n changes → later ≤ after + 2 * n) → IsWithin n leaves → later ≤ before + 2 * n * (shape.levels - 2)
levels_refused old shape leaves before level now changes after later n done less ticks is = step_more n level shape.levels before after later done.least less (done.ticks n is) (ticks n (done.within n is))

pub levels_next : (old : ArenaState) (shape : Shape) (leaves : Changes) (before level : ℕ) (now next : ArenaState) (changes made : Changes) (after later : ℕ) → LevelsDone old shape leaves before level now changes after
    → level < shape.levels
    → ((p : Pass) → shape.levels ≡ suc p.tree.0 → StandsAt p (level - 1) (map_of now.places) changes → StandsAt p level (map_of next.places) made)
    → next.begun ≡ now.begun → NoneLent next.places → ((n : ℕ) → IsWithin n changes → IsWithin n made) → ((n : ℕ) → IsWithin n changes → later ≤ after + 2 * n) → length next.moved + after ≤ length now.moved + later
    → LevelsDone old shape leaves before (level + 1) next made later
levels_next old shape leaves before level now next changes made after later done less stands begun none within ticks moved = record {
  stands = λ p levels at. subst (λ (l : ℕ). StandsAt p l (map_of next.places) made) (omega arith) (stands p levels (done.stands p levels at));
  begun = begun ∙ done.begun;
  none_lent = none;
  within = λ n is. within n (done.within n is);
  ticks = λ n is. step_more n level (level + 1) before after later done.least (omega arith) (done.ticks n is) (ticks n (done.within n is));
  moved = let m = done.moved in omega (arith, m, moved);
  least = let l = done.least in omega (arith, l);
  most = inl (omega (arith, less));
}

below_is : (levels level : ℕ) → 2 ≤ level → levels ≤ level → (level ≤ levels) ⊎ (level ≡ 2) → level - 1 ≡ level_below levels
below_is zero level least end (inl most) = absurd (omega (arith, least, most))
below_is zero level least end (inr is) = omega (arith, is)
below_is (suc zero) level least end (inl most) = absurd (omega (arith, least, most))
below_is (suc zero) level least end (inr is) = omega (arith, is)
below_is (suc (suc n)) level least end (inl most) = omega (arith, end, most)
below_is (suc (suc n)) level least end (inr is) = omega (arith, end, is)

pub levels_stand : (old : ArenaState) (shape : Shape) (leaves : Changes) (before level : ℕ) (now : ArenaState) (changes : Changes) (after : ℕ) → LevelsDone old shape leaves before level now changes after
    → shape.levels ≤ level → (p : Pass) → shape.levels ≡ suc p.tree.0 → StandsAt p 1 (map_of old.places) leaves → StandsAt p (level_below shape.levels) (map_of now.places) changes
levels_stand old shape leaves before level now changes after done end p levels at =
    subst (λ (l : ℕ). StandsAt p l (map_of now.places) changes) (below_is shape.levels level done.least end done.most) (done.stands p levels at)

pub levels_ticks : (old : ArenaState) (shape : Shape) (leaves : Changes) (before level : ℕ) (now : ArenaState) (changes : Changes) (after n : ℕ) → LevelsDone old shape leaves before level now changes after
    → IsWithin n leaves → after ≤ before + 2 * n * (shape.levels - 2)
levels_ticks old shape leaves before level now changes after n done is = by done.most (done.ticks n is)
  where
    rest : (x y : ℕ) → after ≤ before + x → x ≤ y → after ≤ before + y
    rest x y a b = omega (arith, a, b)

    by : (level ≤ shape.levels) ⊎ (level ≡ 2) → after ≤ before + 2 * n * (level - 2) → after ≤ before + 2 * n * (shape.levels - 2)
    by (inl few) ticks = rest (2 * n * (level - 2)) (2 * n * (shape.levels - 2)) ticks (mul-le-mul_left (2 * n) (omega (arith, few)))
    by (inr is) ticks = rest (2 * n * (level - 2)) (2 * n * (shape.levels - 2)) ticks (mul-le-mul_left (2 * n) (omega (arith, is)))
