-- What a guest sees of these steps: pins; and nothing of entries and of the old words.
use Rattle.std.proofs.Common.{◌≡◌, ℕ, [], None, IsTrue, refl, ap, ◌∙◌, subst, inl, arith}
use Rattle.xp_words.specs.KindWords.{is_kind, kind_fields, kind_write}
use Rattle.xp_words.specs.declared.kind.KindWord.{KindWord}
use Rattle.xp_words.specs.declared.place.Place.TheVariants.{Kind}
use Rattle.xp_board.specs.declared.holdings.Holdings.{Holdings}
use Rattle.xp_board.specs.declared.step.Act.TheVariants.{Cas, Store}
use Rattle.xp_board.specs.declared.step.StepKind.TheVariants as kinds
use Rattle.xp_board.specs.Told.{PortValue}
use Rattle.xp_board.proofs.Sums.{when_found}
use Rattle.step_maker.specs.Moves.{Moves}
use Rattle.step_maker.specs.Answers.{Serves, deeds_by, exchanged, missed_at, pin_deed}
use Rattle.step_maker.specs.Asked.{Request}
use Rattle.step_maker.proofs.Piecing.{moves_serves}
use Rattle.kind_words.proofs.KindWriting.{fields_write}
use Rattle.table_words.specs.OldWords.{old_number, old_place}
use Rattle.table_words.specs.declared.old_words.OldWord.{OldWord}
use Rattle.table_words.specs.declared.old_words.OldWord.TheVariants.{First, Second}

-- ---- pins
module _ (f : ℕ) (k l : KindWord) (h : Holdings) (before : IsTrue (is_kind k)) (next : IsTrue (is_kind l)) where
  exchange_deeds : deeds_by (Kind f) (Cas (kind_write k) (kind_write l)) kinds.Kind (kind_write k) h ≡ pin_deed f k.pinned l.pinned
  exchange_deeds =
      when_found (kind_write k) (kind_write k) (exchanged (Kind f) (kind_write k) (kind_write l)) (missed_at (Kind f)) refl
      ∙ ap (λ (y : KindWord). pin_deed f y.pinned (kind_fields (kind_write l)).pinned) (fields_write k before) ∙ ap (λ (y : KindWord). pin_deed f k.pinned y.pinned) (fields_write l next)

-- ---- old words
old_deeds : (which : OldWord) (s w found : ℕ) (h : Holdings) → deeds_by (old_place s which) (Store w) kinds.Context found h ≡ []
old_deeds First s w found h = refl
old_deeds Second s w found h = refl

old_apart : (which : OldWord) → old_number which ≡ 5 → ⊥
old_apart First e = omega arith
old_apart Second e = omega arith

-- they may be written whatever is asked
pub old_serves : (v w : PortValue) (r : Request) (which : OldWord) (word found : ℕ) → Moves v w (old_place v.post.vcpu which) (Store word) kinds.Context None found → Serves v w r []
old_serves v w r which word found m =
    subst (Serves v w r) (old_deeds which v.post.vcpu word found v.holdings)
    (moves_serves v w r (old_place v.post.vcpu which) (Store word) kinds.Context None found m (inl (refl, inl (old_apart which))))
