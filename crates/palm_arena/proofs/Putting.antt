-- A node that is put at a free place, or past the last one.
use Rattle.std.proofs.Common.{◌≡◌, ◌<◌, ℕ, List, [], ◌∷◌, ◌++◌, length, set, sym, ap, ◌∙◌, subst, arith, inr}
use Rattle.std.proofs.lemmas.List.{get_or_past}
use Rattle.std.proofs.lemmas.List.Elements.{Contains-push}
use Rattle.palm_node.specs.declared.id.NodeId.{NodeId}
use Rattle.palm_node.specs.declared.node.Node.{Node}
use Rattle.palm_arena.specs.declared.place.Place.{Place}
use Rattle.palm_arena.specs.declared.place.Place.TheVariants.{Empty, Holds}
use Rattle.palm_arena.specs.declared.journal.Journal.{Journal}
use Rattle.palm_arena.specs.ArenaState.{place_at, set_place, IsVacant}
use Rattle.palm_arena.specs.Journal.{IsMarked, Saves, Appends, Puts, Keeps}
use Rattle.palm_arena.proofs.Places.{set_place-within, set_place-end}
use Rattle.palm_arena.proofs.Marks.{marked_within}
use Rattle.palm_arena.proofs.Keeping.{placing, appending, was_vacant, keeps_same}

pub reused : (id : NodeId) (node : Node) (before after : Journal) (places : List Place)
    → id.place < length places → IsVacant places id → ¬ IsMarked before.touched.items id.place → Saves id (place_at places id) before after → Puts id node before places after (set places id.place (Holds node))
reused id node before after places within vacant free saves = record {
  vacant = vacant;
  placed = set_place-within places id.place (Holds node) within;
  unused = λ count base moved keeps. was_vacant count base before places moved id vacant free keeps;
  kept = λ count base moved keeps. placing count base before after places moved (moved ++ id ∷ []) id (Holds node) within saves (inr (Contains-push moved id)) (λ other apart listed. listed) keeps;
}

pub appended : (id : NodeId) (node : Node) (before after : Journal) (places new : List Place)
    → id.place ≡ length places → length before.touched.items ≡ length places → Appends id Empty before after → new ≡ places ++ Holds node ∷ [] → Puts id node before places after new
appended id node before after places new end marks appends is =
    let vacant : IsVacant places id = get_or_past places id.place Empty (omega arith) in
    record {
      vacant = vacant;
      placed = is ∙ set_place-end places (Holds node) ∙ ap (λ (i : ℕ). set_place places i (Holds node)) (sym end);
      unused = λ count base moved keeps. was_vacant count base before places moved id vacant (λ marked. let w = marked_within before.touched.items id.place marked in absurd (omega arith)) keeps;
      kept = λ count base moved keeps. subst (λ (l : List Place). Keeps count base after l (moved ++ id ∷ [])) (sym is) (appending count base before after places moved id (Holds node) end appends keeps);
    }

-- It doesn't matter which places are offered as free.
pub puts_same : (id : NodeId) (node : Node) (first before after : Journal) (old new : List Place)
    → before.saved.items ≡ first.saved.items → before.touched.items ≡ first.touched.items → Puts id node before old after new → Puts id node first old after new
puts_same id node first before after old new saved touched puts = record {
  vacant = puts.vacant;
  placed = puts.placed;
  unused = λ count base moved keeps. puts.unused count base moved (keeps_same count base first before old moved saved touched keeps);
  kept = λ count base moved keeps. puts.kept count base moved (keeps_same count base first before old moved saved touched keeps);
}
