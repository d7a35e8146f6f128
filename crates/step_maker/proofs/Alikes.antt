-- Words that are alike but for stamps, the clock and the words of flushes.
use Rattle.std.proofs.Common.{◌≡◌, ◌⊎◌, ℕ, if◌then◌else◌, Bool, true, false, refl, sym, ap, ◌∙◌, subst, inl, inr}
use Rattle.xp_words.specs.KindWords.{kind_fields}
use Rattle.xp_words.specs.declared.kind.KindWord.{KindWord}
use Rattle.xp_words.specs.declared.place.Place.{Place}
use Rattle.xp_words.specs.declared.place.Place.TheVariants.{Clock, Pages, Life, Vcpu, Refs, Kind, M2p, Cell, Map, Priv}
use Rattle.xp_board.specs.declared.step.Act.TheVariants.{Store}
use Rattle.xp_board.specs.Acts.{left_by}
use Rattle.xp_board.specs.Readings.{is_free}
use Rattle.xp_board.specs.Steps.{is_same}
use Rattle.step_maker.specs.Plain.{Words, change}
use Rattle.step_maker.specs.Twins.{IsAlike, IsAlikeRef, IsAlikeKind, Alike}

pub alike_same : (q : Place) (x y : ℕ) → x ≡ y → IsAlike q x y
alike_same Clock x y e = tt
alike_same (Pages d) x y e = e
alike_same (Life d) x y e = e
alike_same (Vcpu v k) x y e = λ a b. e
alike_same (Refs f) x y e = inl e
alike_same (Kind f) x y e = inl e
alike_same (M2p f) x y e = e
alike_same (Cell f i) x y e = e
alike_same (Map k) x y e = e
alike_same (Priv d) x y e = e

pub same_alike : (m n : Words) → ((q : Place) → m q ≡ n q) → Alike m n
same_alike m n same q = alike_same q (m q) (n q) (same q)

ref_trans : (x y z : ℕ) → IsAlikeRef x y → IsAlikeRef y z → IsAlikeRef x z
ref_trans x y z (inl a) b = subst (λ u. IsAlikeRef u z) (sym a) b
ref_trans x y z (inr a) (inl b) = inr (a.0, subst (λ u. is_free u ≡ true) b a.1)
ref_trans x y z (inr a) (inr b) = inr (a.0, b.1)

kind_fields_trans : (k l j : KindWord) → IsAlikeKind k l → IsAlikeKind l j → IsAlikeKind k j
kind_fields_trans k l j a b = (a.0, b.1 ∙ ap (λ (u : KindWord). record u { number = j.number }) a.1)

kind_trans : (x y z : ℕ) → (x ≡ y) ⊎ IsAlikeKind (kind_fields x) (kind_fields y) → (y ≡ z) ⊎ IsAlikeKind (kind_fields y) (kind_fields z) → (x ≡ z) ⊎ IsAlikeKind (kind_fields x) (kind_fields z)
kind_trans x y z (inl a) b = subst (λ u. (u ≡ z) ⊎ IsAlikeKind (kind_fields u) (kind_fields z)) (sym a) b
kind_trans x y z (inr a) (inl b) = inr (subst (λ u. IsAlikeKind (kind_fields x) (kind_fields u)) b a)
kind_trans x y z (inr a) (inr b) = inr (kind_fields_trans (kind_fields x) (kind_fields y) (kind_fields z) a b)

trans_at : (q : Place) (x y z : ℕ) → IsAlike q x y → IsAlike q y z → IsAlike q x z
trans_at Clock x y z a b = tt
trans_at (Pages d) x y z a b = a ∙ b
trans_at (Life d) x y z a b = a ∙ b
trans_at (Vcpu v k) x y z a b = λ s t. a s t ∙ b s t
trans_at (Refs f) x y z a b = ref_trans x y z a b
trans_at (Kind f) x y z a b = kind_trans x y z a b
trans_at (M2p f) x y z a b = a ∙ b
trans_at (Cell f i) x y z a b = a ∙ b
trans_at (Map k) x y z a b = a ∙ b
trans_at (Priv d) x y z a b = a ∙ b

pub alike_trans : (l m n : Words) → Alike l m → Alike m n → Alike l n
alike_trans l m n a b q = trans_at q (l q) (m q) (n q) (a q) (b q)

-- the same store keeps them alike
by_store : (b : Bool) (q : Place) (w x y : ℕ) → IsAlike q x y → IsAlike q (if b then w else x) (if b then w else y)
by_store true q w x y a = alike_same q w w refl
by_store false q w x y a = a

pub alike_store : (w : ℕ) (p : Place) (m n : Words) → Alike m n → Alike (change (Store w) p m) (change (Store w) p n)
unfolding left_by
alike_store w p m n a q = by_store (is_same q p) q w (m q) (n q) (a q)
