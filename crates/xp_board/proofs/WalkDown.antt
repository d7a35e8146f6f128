-- What a walk comes to: through an entry that reads alike to the same, and one level down to what the entry of its table leads to.
use Rattle.std.proofs.Common.{◌≡◌, ℕ, ◌-◌, ◌<◌, ◌==◌, if◌then◌else◌, Bool, true, false, List, ◌∷◌, Some, IsTrue, refl, sym, ap, subst, ◌∙◌, inl, inr}
use Rattle.xp_words.specs.Entries.{is_bit, frame_of}
use Rattle.xp_words.specs.declared.place.Place.{Place}
use Rattle.xp_words.specs.declared.place.Place.TheVariants.{Cell}
use Rattle.xp_words.specs.Places.{Sizes}
use Rattle.xp_board.specs.declared.step.Item.{Item}
use Rattle.xp_board.specs.declared.holdings.Reached.{Reached}
use Rattle.xp_board.specs.declared.holdings.Walk.{Walk}
use Rattle.xp_board.specs.declared.holdings.Holdings.{Holdings}
use Rattle.xp_board.specs.Lists.{Member}
use Rattle.xp_board.specs.FillSteps.{is_walked, item_of, cached_with, level_of, level_in}
use Rattle.xp_board.specs.Reach.{Use, Table, Writes, Reads, use_of, use_below, reached_by, Reach, cached, walked, entry}
use Rattle.xp_board.proofs.HandLists.{Member-take}
use Rattle.xp_board.proofs.CellAlike.{CellAlike, use_alike}

-- ---- entries
-- the targets of an entry are come to from a table that is come to
abbrev pub Passes : Sizes → (Place → ℕ) → (ℕ → Use → Type 0) → ℕ → ℕ → Type 0
Passes z m Come f i =
    (level : ℕ) → Come f (Table level) → IsTrue (is_walked level i) → is_bit 0 (m (Cell f i)) ≡ true → frame_of (m (Cell f i)) < z.frames →
    Come (frame_of (m (Cell f i))) (use_below level (m (Cell f i)))

pub passes_alike : (z : Sizes) (m m2 : Place → ℕ) (Come : ℕ → Use → Type 0) (f i : ℕ) → CellAlike (m (Cell f i)) (m2 (Cell f i)) → Passes z m Come f i → Passes z m2 Come f i
passes_alike z m m2 Come f i alike pass level came deep present inside =
    subst (λ g. Come g (use_below level (m2 (Cell f i)))) (sym alike.frame)
    (subst (λ u. Come (frame_of (m (Cell f i))) u) (sym (use_alike level (m (Cell f i)) (m2 (Cell f i)) alike))
    (pass level came deep (sym alike.present ∙ present) (subst (λ g. g < z.frames) alike.frame inside)))

-- ---- a walk in the hand a goes down through the entry i of its table f, which reads as w: what is reached, and to read what is reached to write, is come to
use_lowest : (level w : ℕ) → (level == 1) ≡ true → use_below level w ≡ (if is_bit 1 w then Writes else Reads)
use_lowest level w e = rw e refl

use_higher : (level w : ℕ) → (level == 1) ≡ false → use_below level w ≡ Table (level - 1)
use_higher level w e = rw e refl

module _ (z : Sizes) (m : Place → ℕ) (a : Holdings) (Come : ℕ → Use → Type 0) (come : (g : ℕ) (u : Use) → Reach z m a g u → Come g u) (reads : (g : ℕ) → Reach z m a g Writes → Come g Reads) where
  item_use : (g : ℕ) (p q : Bool) → (p ≡ true → q ≡ true) → Reach z m a g (if q then Writes else Reads) → Come g (if p then Writes else Reads)
  item_use g true true e r = come g Writes r
  item_use g true false e r = absurd (let k = e refl in cc)
  item_use g false true e r = reads g r
  item_use g false false e r = come g Reads r

  module _ (walk old : Walk) (f level i w : ℕ) (above : List Reached) (flying : a.walk ≡ Some old) (same : walk.reached ≡ old.reached)
      (reached : walk.reached ≡ record { table = f; level = level } ∷ above) (walks : IsTrue (is_walked level i)) (alike : CellAlike (m (Cell f i)) w)
      (present : is_bit 0 w ≡ true) (inside : frame_of w < z.frames) where
    in_flight : (k : Reached) → Member k walk.reached → Member k (reached_by a.walk)
    in_flight k e = subst (λ o. Member k (reached_by o)) (sym flying) (subst (λ xs. Member k xs) same e)

    here : Reach z m a f (Table level)
    unfolding Member
    here = walked (record { table = f; level = level }) (in_flight _ (subst (λ xs. Member (record { table = f; level = level }) xs) (sym reached) (inl refl)))

    target : Reach z m a (frame_of w) (use_below level w)
    target =
        subst (λ g. Reach z m a g (use_below level w)) (sym alike.frame)
        (subst (λ u. Reach z m a (frame_of (m (Cell f i))) u) (sym (use_alike level (m (Cell f i)) w alike))
        (entry f level i here walks (sym alike.present ∙ present) (subst (λ g. g < z.frames) alike.frame inside)))

    level_here : level_of walk ≡ level
    level_here = ap level_in reached

    -- the walk ends in the cache
    pub cached_comes : (walk.writable ≡ true → is_bit 1 w ≡ true) → (level_of walk == 1) ≡ true → (k : Item) → Member k (cached_with (item_of walk w) a.cache) → Come k.frame (use_of k)
    unfolding Member
    cached_comes writable lowest k e =
        elim (Member-take 64 k (item_of walk w ∷ a.cache) e) [
          | inl is ↦
              subst (λ j. Come j.frame (use_of j)) is
              (item_use (frame_of w) walk.writable (is_bit 1 w) writable
              (subst (λ u. Reach z m a (frame_of w) u) (use_lowest level w (subst (λ l. (l == 1) ≡ true) level_here lowest)) target))
          | inr rest ↦ come k.frame (use_of k) (cached k rest)
        ]

    -- or has one table more
    pub deeper_comes : (level_of walk == 1) ≡ false → (k : Reached) → Member k (record { table = frame_of w; level = level_of walk - 1 } ∷ walk.reached) → Come k.table (Table k.level)
    unfolding Member
    deeper_comes higher k e =
        elim e [
          | inl is ↦
              subst (λ j. Come j.table (Table j.level)) is
              (come (frame_of w) (Table (level_of walk - 1)) (subst (λ l. Reach z m a (frame_of w) (Table (l - 1))) (sym level_here)
              (subst (λ u. Reach z m a (frame_of w) u) (use_higher level w (subst (λ l. (l == 1) ≡ false) level_here higher)) target)))
          | inr rest ↦ come k.table (Table k.level) (walked k (in_flight k rest))
        ]
