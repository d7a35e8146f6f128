-- What an act stores is a spelling.
use Rattle.std.proofs.Common.{◌≡◌, ℕ, ◌+◌, ◌%◌, ◌^◌, ◌<◌, ◌==◌, max, refl, sym, subst}
use Rattle.xp_words.specs.Machine.{Machine, IsMachine}
use Rattle.xp_words.specs.declared.place.Place.{Place}
use Rattle.xp_board.specs.declared.holdings.Holdings.{Holdings}
use Rattle.xp_board.specs.declared.step.Act.{Act}
use Rattle.xp_board.specs.declared.step.Act.TheVariants.{Load, Cas, Store, Add, Max}
use Rattle.xp_board.specs.declared.step.Step.{Step}
use Rattle.xp_board.specs.declared.step.StepKind.{StepKind}
use Rattle.xp_board.specs.Acts.{left_by}
use Rattle.xp_board.specs.Spelling.{IsSpelling}
use Rattle.xp_board.specs.Legal.{LegalAs, WritesSpelling}
use Rattle.xp_board.specs.Keeping.{MayAct}
use Rattle.xp_board.specs.Sound.{Spelled}
use Rattle.step_effects.proofs.ActEffects.{Wrote}
use Rattle.count_rule.proofs.PartLaws.{spelled_by}
use Rattle.count_rule.proofs.Spellings.{spelling_small}
use Rattle.xp_board.proofs.Sums.{either}

module _ (n : Machine) (s : ℕ) (x : Step) (p : Place) (kind : StepKind) (m m2 : Place → ℕ) (b : Holdings) where
  -- the act at its place, with its kind
  pub legal_at : Wrote n x p kind m m2 b → MayAct n s x b → LegalAs n s b p x.act x.mark kind
  legal_at d may = subst (λ k. LegalAs n s b p x.act x.mark k) d.kind_is (subst (λ q. LegalAs n s b q x.act x.mark x.kind) d.place may.act)

  left_spelled : (a : Act) → x.act ≡ a → WritesSpelling n p a → LegalAs n s b p a x.mark kind → left_by a (m p) ≡ m2 p → IsSpelling n p (m p) →
      ((by : ℕ) → LegalAs n s b p (Add by) x.mark kind → m2 p ≡ (m p + by) % 2 ^ 64 → IsSpelling n p (m2 p)) →
      ((value : ℕ) → LegalAs n s b p (Max value) x.mark kind → value < 2 ^ 64 → m2 p ≡ max (m p) value → IsSpelling n p (m2 p)) → IsSpelling n p (m2 p)
  unfolding left_by
  left_spelled Load at spelled legal left old add most = rw (sym left) old
  left_spelled (Cas expected new) at spelled legal left old add most = rw (sym left) (either (IsSpelling n p) (m p == expected) new (m p) spelled old)
  left_spelled (Store new) at spelled legal left old add most = rw (sym left) spelled
  left_spelled (Add by) at spelled legal left old add most = add by legal (sym left)
  left_spelled (Max value) at spelled legal left old add most = most value legal spelled (sym left)

  pub wrote_spelled : Wrote n x p kind m m2 b → MayAct n s x b → IsMachine n → Spelled n m →
      ((by : ℕ) → LegalAs n s b p (Add by) x.mark kind → m2 p ≡ (m p + by) % 2 ^ 64 → IsSpelling n p (m2 p)) →
      ((value : ℕ) → LegalAs n s b p (Max value) x.mark kind → value < 2 ^ 64 → m2 p ≡ max (m p) value → IsSpelling n p (m2 p)) → Spelled n m2
  wrote_spelled d may machine old add most =
      let fits = left_spelled x.act refl d.spelling (legal_at d may) d.left (old.spelled p d.real) add most in
      spelled_by n m m2 p d.real d.others (spelling_small n p (m2 p) machine d.real fits) fits old
