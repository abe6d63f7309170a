-- Lists of cells, joined and in other orders, and what a map has that changes at one id.
use Rattle.std.proofs.Common.{◌≡◌, ◌≢◌, Bool, true, false, List, [], ◌∷◌, ◌++◌, refl, sym, ap, ◌∙◌, Some, None, eq-eqb, eqb-true, subst}
use mathlib.Core.Logic.{dite}
use native.Mathlib.Decide.{ℕ_discrete}
use Rattle.std.specs.Prelude.{Option}
use Rattle.std.specs.List.{flat_map}
use Rattle.palm_node.specs.declared.id.NodeId.{NodeId}
use Rattle.palm_node.specs.declared.node.Node.{Node}
use Rattle.palm_arena.specs.Reads.{same_place}
use Rattle.palm_arena.specs.Cells.{Found, Nothing, One, Several, both, found, found_if, Cell, found_at, Owns, SameCells, ChangesAt}
use Rattle.palm_arena.proofs.Keeping.{same_id}

pub both_nothing : (x : Found) → both x Nothing ≡ x
both_nothing Nothing = refl
both_nothing (One s) = refl
both_nothing Several = refl

pub both_many : (x : Found) → both x Several ≡ Several
both_many Nothing = refl
both_many (One s) = refl
both_many Several = refl

pub both_comm : (x y : Found) → both x y ≡ both y x
both_comm Nothing y = sym (both_nothing y)
both_comm (One s) Nothing = refl
both_comm (One s) (One t) = refl
both_comm (One s) Several = refl
both_comm Several y = sym (both_many y)

pub both_assoc : (x y z : Found) → both (both x y) z ≡ both x (both y z)
both_assoc Nothing y z = refl
both_assoc (One s) Nothing z = refl
both_assoc (One s) (One t) Nothing = refl
both_assoc (One s) (One t) (One u) = refl
both_assoc (One s) (One t) Several = refl
both_assoc (One s) Several z = refl
both_assoc Several y z = refl

-- The middle two change places.
pub both_cross : (a b c d : Found) → both (both a b) (both c d) ≡ both (both a c) (both b d)
both_cross a b c d =
    both_assoc a b (both c d) ∙ ap (both a) (sym (both_assoc b c d) ∙ ap (λ x. both x d) (both_comm b c) ∙ both_assoc c b d) ∙ sym (both_assoc a c (both b d))

pub at-append : (i : NodeId) (xs ys : List Cell) → found_at i (xs ++ ys) ≡ both (found_at i xs) (found_at i ys)
at-append i [] ys = refl
at-append i (x ∷ xs) ys = ap (both (found_if (same_place x.0 i) x.1)) (at-append i xs ys) ∙ sym (both_assoc (found_if (same_place x.0 i) x.1) (found_at i xs) (found_at i ys))

-- Lists made of two parts for each item.
pub at-parted : {X : Type 0} (i : NodeId) (f g : X → List Cell) (xs : List X) → found_at i (flat_map (λ x. f x ++ g x) xs) ≡ both (found_at i (flat_map f xs)) (found_at i (flat_map g xs))
at-parted i f g [] = refl
at-parted i f g (x ∷ xs) =
    at-append i (f x ++ g x) (flat_map (λ x. f x ++ g x) xs)
    ∙ ap (λ y. both y (found_at i (flat_map (λ x. f x ++ g x) xs))) (at-append i (f x) (g x))
    ∙ ap (both (both (found_at i (f x)) (found_at i (g x)))) (at-parted i f g xs)
    ∙ both_cross (found_at i (f x)) (found_at i (g x)) (found_at i (flat_map f xs)) (found_at i (flat_map g xs))
    ∙ ap (λ y. both y (both (found_at i (g x)) (found_at i (flat_map g xs)))) (sym (at-append i (f x) (flat_map f xs)))
    ∙ ap (both (found_at i (f x ++ flat_map f xs))) (sym (at-append i (g x) (flat_map g xs)))

-- One more node at an id that the map has: it is the map's, and the rest has nothing there.
one_left : (s : Node) (x : Found) (o : Option Node) → both (One s) x ≡ found o → (o ≡ Some s) × (x ≡ Nothing)
one_left s Nothing None e = absurd (cc)
one_left s Nothing (Some t) e = let q : One s ≡ One t = e in ((cc), refl)
one_left s (One t) None e = absurd (cc)
one_left s (One t) (Some u) e = absurd (cc)
one_left s Several None e = absurd (cc)
one_left s Several (Some u) e = absurd (cc)

-- What a list has at its first cell's own id, and at another.
pub at_own : (id : NodeId) (s : Node) (cs : List Cell) → found_at id ((id, s) ∷ cs) ≡ both (One s) (found_at id cs)
at_own id s cs = ap (λ b. both (found_if b s) (found_at id cs)) (eq-eqb id.place id.place refl)

pub at_other : (i id : NodeId) (s : Node) (cs : List Cell) → id ≢ i → found_at i ((id, s) ∷ cs) ≡ found_at i cs
at_other i id s cs n = by (same_place id i) refl
  where
    by : (b : Bool) → same_place id i ≡ b → both (found_if b s) (found_at i cs) ≡ found_at i cs
    by true e = absurd (n (same_id id i (eqb-true id.place i.place e)))
    by false e = refl

-- The front cell is in the map, and the others have nothing at its id.
pub owned_front : (m : NodeId → Option Node) (id : NodeId) (s : Node) (cs : List Cell) → Owns m ((id, s) ∷ cs) → (m id ≡ Some s) × (found_at id cs ≡ Nothing)
owned_front m id s cs o = one_left s (found_at id cs) (m id) (sym (at_own id s cs) ∙ o id)

-- A new node is put, one is dropped.
pub owned_taken : (m m' : NodeId → Option Node) (id : NodeId) (t : Node) (cs : List Cell) → Owns m cs → m id ≡ None → ChangesAt id (Some t) m m' → Owns m' ((id, t) ∷ cs)
owned_taken m m' id t cs o new c i = dite (ℕ_discrete id.place i.place)
    (λ e. let same = same_id id i e in subst (λ k. found_at k ((id, t) ∷ cs) ≡ found (m' k)) same (at_own id t cs ∙ ap (both (One t)) (o id ∙ ap found new) ∙ ap found (sym c.here)))
    (λ other. let apart : id ≢ i = λ e. other (ap (λ (k : NodeId). k.place) e) in at_other i id t cs apart ∙ o i ∙ ap found (sym (c.elsewhere i apart)))

pub owned_dropped : (m m' : NodeId → Option Node) (id : NodeId) (s : Node) (cs : List Cell) → Owns m ((id, s) ∷ cs) → ChangesAt id None m m' → Owns m' cs
owned_dropped m m' id s cs o c i = dite (ℕ_discrete id.place i.place)
    (λ e. let same = same_id id i e in subst (λ k. found_at k cs ≡ found (m' k)) same ((owned_front m id s cs o).1 ∙ ap found (sym c.here)))
    (λ other. let apart : id ≢ i = λ e. other (ap (λ (k : NodeId). k.place) e) in sym (at_other i id s cs apart) ∙ o i ∙ ap found (sym (c.elsewhere i apart)))

-- The same cells in another order are owned too.
pub owned_same : (m : NodeId → Option Node) (xs ys : List Cell) → Owns m xs → SameCells xs ys → Owns m ys
owned_same m xs ys o s i = sym (s i) ∙ o i

pub same_append : (xs xs' ys ys' : List Cell) → SameCells xs xs' → SameCells ys ys' → SameCells (xs ++ ys) (xs' ++ ys')
same_append xs xs' ys ys' a b i = at-append i xs ys ∙ ap (λ x. both x (found_at i ys)) (a i) ∙ ap (both (found_at i xs')) (b i) ∙ sym (at-append i xs' ys')

pub same_swap : (xs ys : List Cell) → SameCells (xs ++ ys) (ys ++ xs)
same_swap xs ys i = at-append i xs ys ∙ both_comm (found_at i xs) (found_at i ys) ∙ sym (at-append i ys xs)

pub same_cross : (a b c d : List Cell) → SameCells ((a ++ b) ++ (c ++ d)) ((a ++ c) ++ (b ++ d))
same_cross a b c d i =
    at-append i (a ++ b) (c ++ d) ∙ ap (λ x. both x (found_at i (c ++ d))) (at-append i a b) ∙ ap (both (both (found_at i a) (found_at i b))) (at-append i c d)
    ∙ both_cross (found_at i a) (found_at i b) (found_at i c) (found_at i d)
    ∙ sym (at-append i (a ++ c) (b ++ d) ∙ ap (λ x. both x (found_at i (b ++ d))) (at-append i a c) ∙ ap (both (both (found_at i a) (found_at i c))) (at-append i b d))

pub same_trans : (xs ys zs : List Cell) → SameCells xs ys → SameCells ys zs → SameCells xs zs
same_trans xs ys zs a b i = a i ∙ b i

pub same_sym : (xs ys : List Cell) → SameCells xs ys → SameCells ys xs
same_sym xs ys a i = sym (a i)

pub same_eq : (xs ys : List Cell) → xs ≡ ys → SameCells xs ys
same_eq xs ys e i = ap (found_at i) e

-- What is worked on comes to the front.
pub same_front : (h mh cu kr nb st : List Cell) → SameCells (mh ++ cu) (nb ++ st) → SameCells ((h ++ mh) ++ (cu ++ kr)) (nb ++ (st ++ (h ++ kr)))
same_front h mh cu kr nb st e i =
    at-append i (h ++ mh) (cu ++ kr) ∙ ap (λ x. both x (found_at i (cu ++ kr))) (at-append i h mh) ∙ ap (both (both (found_at i h) (found_at i mh))) (at-append i cu kr)
    ∙ ap (λ x. both x (both (found_at i cu) (found_at i kr))) (both_comm (found_at i h) (found_at i mh)) ∙ both_cross (found_at i mh) (found_at i h) (found_at i cu) (found_at i kr)
    ∙ ap (λ x. both x (both (found_at i h) (found_at i kr))) (sym (at-append i mh cu) ∙ e i ∙ at-append i nb st) ∙ both_assoc (found_at i nb) (found_at i st) (both (found_at i h) (found_at i kr))
    ∙ ap (both (found_at i nb)) (ap (both (found_at i st)) (sym (at-append i h kr)) ∙ sym (at-append i st (h ++ kr))) ∙ sym (at-append i nb (st ++ (h ++ kr)))

-- And it goes back to its place, with what was left over.
pub same_back : (h ks rest na st pa ka : List Cell) → SameCells (na ++ st) (pa ++ ka) → SameCells (na ++ (st ++ (h ++ (ks ++ rest)))) (h ++ (pa ++ ((ks ++ ka) ++ rest)))
same_back h ks rest na st pa ka e i =
    at-append i na (st ++ (h ++ (ks ++ rest))) ∙ ap (both (found_at i na)) (at-append i st (h ++ (ks ++ rest))) ∙ sym (both_assoc (found_at i na) (found_at i st) (found_at i (h ++ (ks ++ rest))))
    ∙ ap (λ x. both x (found_at i (h ++ (ks ++ rest)))) (sym (at-append i na st) ∙ e i ∙ at-append i pa ka)
    ∙ ap (both (both (found_at i pa) (found_at i ka))) (at-append i h (ks ++ rest))
    ∙ both_cross (found_at i pa) (found_at i ka) (found_at i h) (found_at i (ks ++ rest))
    ∙ ap (λ x. both x (both (found_at i ka) (found_at i (ks ++ rest)))) (both_comm (found_at i pa) (found_at i h)) ∙ both_assoc (found_at i h) (found_at i pa) (both (found_at i ka) (found_at i (ks ++ rest)))
    ∙ ap (λ x. both (found_at i h) (both (found_at i pa) x)) (ap (both (found_at i ka)) (at-append i ks rest) ∙ sym (both_assoc (found_at i ka) (found_at i ks) (found_at i rest)) ∙ ap (λ x. both x (found_at i rest)) (both_comm (found_at i ka) (found_at i ks) ∙ sym (at-append i ks ka)) ∙ sym (at-append i (ks ++ ka) rest))
    ∙ ap (both (found_at i h)) (sym (at-append i pa ((ks ++ ka) ++ rest))) ∙ sym (at-append i h (pa ++ ((ks ++ ka) ++ rest)))

pub same_pass : (xs ys zs : List Cell) → SameCells (xs ++ (ys ++ zs)) (ys ++ (xs ++ zs))
same_pass xs ys zs i =
    at-append i xs (ys ++ zs) ∙ ap (both (found_at i xs)) (at-append i ys zs) ∙ sym (both_assoc (found_at i xs) (found_at i ys) (found_at i zs)) ∙ ap (λ x. both x (found_at i zs)) (both_comm (found_at i xs) (found_at i ys))
    ∙ both_assoc (found_at i ys) (found_at i xs) (found_at i zs) ∙ ap (both (found_at i ys)) (sym (at-append i xs zs)) ∙ sym (at-append i ys (xs ++ zs))
