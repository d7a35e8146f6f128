-- What the steps are to a piece in which the frame is asked, and which may take marks off where it is another domain's.
use Rattle.std.proofs.Common.{◌≡◌, ◌≢◌, ℕ, true, false, List, [], ◌∷◌, ◌++◌, Some, None, IsTrue, refl, sym, ap, ◌∙◌, subst, arith, inl, inr}
use Rattle.std.proofs.lemmas.Bool.Decides.{nat_tests}
use Rattle.xp_words.specs.KindWords.{is_kind, kind_fields, kind_write}
use Rattle.xp_words.specs.declared.kind.KindWord.{KindWord}
use Rattle.xp_words.specs.declared.place.Place.TheVariants.{Kind, Life}
use Rattle.xp_words.proofs.Shared.{eq_false as when_ne}
use Rattle.xp_board.specs.declared.holdings.Holdings.{Holdings}
use Rattle.xp_board.specs.declared.step.Act.TheVariants.{Cas, Load, Store}
use Rattle.xp_board.specs.declared.step.StepKind.TheVariants as kinds
use Rattle.xp_board.specs.Hands.{work_on}
use Rattle.xp_board.specs.KindSteps.{AllowsForm, MayMakePartial}
use Rattle.xp_board.specs.Readings.{is_dead, is_partial}
use Rattle.xp_board.specs.Sound.{is_busy}
use Rattle.xp_board.specs.Told.{Post, PortValue}
use Rattle.xp_board.proofs.Sums.{when_eq}
use Rattle.xp_board.proofs.WorkFacts.{works_facts}
use Rattle.step_maker.specs.Moves.{Came, Met, Moves}
use Rattle.step_maker.proofs.Coming.{came_post, met_before, moves_came}
use Rattle.step_maker.specs.Answers.{Deed, Misses, Serves, deeds_by}
use Rattle.step_maker.specs.Asked.{IsAsked, Request}
use Rattle.step_maker.specs.Reasons.{keeps_type}
use Rattle.step_maker.proofs.Growing.{asks}
use Rattle.step_maker.proofs.Piecing.{same_request, serves_came, serves_step}
use Rattle.step_maker.proofs.Keeping.{kept_type}
use Rattle.kind_words.specs.Kinds.{MayLeave}
use Rattle.kind_words.proofs.KindFacts.{work_word}
use Rattle.kind_words.proofs.KindWriting.{fields_write}
use Rattle.table_words.specs.OldWords.{old_place}
use Rattle.table_words.specs.declared.old_words.OldWord.TheVariants.{First}
use Rattle.table_words.proofs.Shared.{pin_none}
use Rattle.kept_marks.specs.Marks.{IsUnpaged, unkept_kind}
use Rattle.kept_marks.proofs.MarkWords.{partial_form, partial_undead, unkept_is}

-- ---- words that keep their type
busy_undead : (k : KindWord) → is_busy k ≡ true → is_dead k ≡ false
busy_undead k busy = grind (arith, nat_tests)

-- ---- the frame is asked also by what was found later
pub asked_later : (u v w : PortValue) (r : Request) (f : ℕ) → Came v w → IsAsked u.post.machine u.post.vcpu r (Met u v) f → IsAsked u.post.machine u.post.vcpu r (Met u w) f
asked_later u v w r f came asked =
    asks u.post.machine u.post.vcpu r (Met u v) r (Met u w) (same_request u.post.machine u.post.vcpu r (Met u v) (Met u w) (λ m x. met_before u v w m x came)) f asked

-- ---- the frame is left
module _ (v a : PortValue) (f : ℕ) (k : KindWord) (leaves : MayLeave v f k) (partial : IsTrue (is_partial k)) (found : ℕ) (store : Moves v a (Kind f) (Store (kind_write k)) kinds.Kind None found) where
  word_is : found ≡ leaves.work.word
  word_is = work_word v.post.machine v.post.vcpu v.holdings f found leaves.work store.finds leaves.here

  left_keeps : IsTrue (keeps_type found (kind_write k))
  left_keeps =
      let finds = store.finds in
      let facts = works_facts v.post.machine finds.words finds.hands v.post.vcpu f leaves.work finds.sound finds.real (subst (λ (h : Holdings). work_on f h.works ≡ Some leaves.work) (sym finds.mine) leaves.here) in
      let may : MayMakePartial v.post.machine f leaves.work k v.holdings = subst (λ o. AllowsForm o v.post.machine f leaves.work k v.holdings) (partial_form k partial) leaves.may in
      let busy : is_busy (kind_fields leaves.work.word) ≡ true = ap (λ y. is_busy (kind_fields y)) (sym facts.word) ∙ facts.busy in
      kept_type found (kind_write k) (kind_fields leaves.work.word) k (ap (λ y. kind_fields y) word_is) (fields_write k leaves.is) may.kind (busy_undead (kind_fields leaves.work.word) busy)

  module _ (u : PortValue) (r : Request) (ds : List Deed) (before : Serves u v r ds) (asked : IsAsked u.post.machine u.post.vcpu r (Met u v) f) where
    pub left_serves : Serves u a r ds
    left_serves =
        serves_step u v a r ds (Kind f) (Store (kind_write k)) kinds.Kind None found before store
        (asked_later u v a r f (moves_came v a (Kind f) (Store (kind_write k)) kinds.Kind None found store) asked, left_keeps)

    -- and the life of its domain is looked at
    pub looked_serves : (b : PortValue) (owner life : ℕ) → Moves a b (Life owner) Load kinds.Look None life → Serves u b r ds
    looked_serves b owner life look = serves_step u a b r ds (Life owner) Load kinds.Look None life left_serves look tt

-- ---- its mark is taken back, or was
module _ (u x y : PortValue) (r : Request) (f : ℕ) (k : KindWord) (is : IsTrue (is_kind k)) (partial : IsTrue (is_partial k)) (page : IsUnpaged k) (found : ℕ)
    (try : Moves x y (Kind f) (Cas (kind_write k) (kind_write (unkept_kind k))) kinds.Kind None found) (locks : r.locks ≡ true) (asked : IsAsked u.post.machine u.post.vcpu r (Met u y) f) (ds : List Deed)
    (before : Serves u x r ds) where
  tried : Serves u y r (deeds_by (Kind f) (Cas (kind_write k) (kind_write (unkept_kind k))) kinds.Kind found x.holdings ++ ds)
  tried =
      serves_step u x y r ds (Kind f) (Cas (kind_write k) (kind_write (unkept_kind k))) kinds.Kind None found before try
      (inr (locks, asked, kept_type (kind_write k) (kind_write (unkept_kind k)) k (unkept_kind k) (fields_write k is) (fields_write (unkept_kind k) (unkept_is k is partial page)) refl (partial_undead k partial)))

  no_deed : found ≡ kind_write k → deeds_by (Kind f) (Cas (kind_write k) (kind_write (unkept_kind k))) kinds.Kind found x.holdings ≡ []
  no_deed done = rw (when_eq found (kind_write k) done, fields_write k is, fields_write (unkept_kind k) (unkept_is k is partial page)) (pin_none f k.pinned)

  lost_deed : found ≢ kind_write k → deeds_by (Kind f) (Cas (kind_write k) (kind_write (unkept_kind k))) kinds.Kind found x.holdings ≡ Misses (Kind f) ∷ []
  lost_deed off = rw (when_ne found (kind_write k) off) refl

  pub back_serves : found ≡ kind_write k → Serves u y r ds
  back_serves done = subst (λ es. Serves u y r (es ++ ds)) (no_deed done) tried

  pub lost_serves : found ≢ kind_write k → Serves u y r (Misses (Kind f) ∷ ds)
  lost_serves off = subst (λ es. Serves u y r (es ++ ds)) (lost_deed off) tried

-- ---- the first old word names it
pub named_serves : (u v w : PortValue) (r : Request) (ds : List Deed) (word : ℕ) → Serves u v r ds → Moves v w (old_place v.post.vcpu First) (Store word) kinds.Context None 0 → Serves u w r ds
named_serves u v w r ds word before store =
    let same : v.post.vcpu ≡ u.post.vcpu = ap (λ (p : Post). p.vcpu) (came_post u v (serves_came u v r ds before)) in
    serves_step u v w r ds (old_place v.post.vcpu First) (Store word) kinds.Context None 0 before store (inl (same, inl (λ e. absurd cc)))
