-- When each row may be made, and what it leaves in hand.
use Rattle.std.proofs.Common.{◌≡◌, ◌≢◌, ℕ, ◌<◌, if◌then◌else◌, not, Option, Result, Ok, Err, IfErr, MatchResult, Some, None, IsTrue, refl, sym, ap, ◌∙◌, subst, arith, lit<, inl}
use Rattle.std.proofs.lemmas.Bool.Decides.{nat_tests}
use Rattle.xp_words.specs.Machine.{Machine}
use Rattle.xp_words.specs.declared.place.Place.TheVariants.{Kind}
use Rattle.xp_words.specs.Places.{Sizes, is_place, sizes_of}
use Rattle.xp_words.specs.declared.kind.KindWord.{KindWord}
use Rattle.xp_words.specs.declared.kind.PageType.{PageType}
use Rattle.xp_words.specs.KindWords.{is_kind, kind_fields, kind_write}
use Rattle.xp_words.specs.PageTypes.{is_none}
use Rattle.xp_words.proofs.KindLaws.{kind_read-write}
use Rattle.xp_words.proofs.Shared.{eq_false as when_ne}
use Rattle.xp_board.specs.declared.step.Act.TheVariants.{Cas, Store, Add}
use Rattle.xp_board.specs.declared.step.StepKind.TheVariants as kinds
use Rattle.xp_board.specs.declared.holdings.Holdings.{Holdings}
use Rattle.xp_board.specs.Hands.{refs_to}
use Rattle.xp_board.specs.declared.holdings.Work.{Work}
use Rattle.xp_board.specs.KindSteps.{AllowsKind, AllowsForm, form_of, AllowsKindStore, KindRow, Count, Begin, Resume, AllowsKindRow, kind_row, after_kind_row, begun_kind, raised_kind, resumed_kind, MayDrop}
use Rattle.xp_board.specs.Readings.{is_live, is_dead, is_partial}
use Rattle.xp_board.specs.RefSteps.{one_down}
use Rattle.xp_board.specs.Spelling.{IsSpelling, is_kind_in}
use Rattle.xp_board.specs.Told.{PortValue}
use Rattle.xp_board.proofs.Sums.{if_itself}
use Rattle.step_maker.specs.Holds.{Holds, MayWork, still}
use Rattle.step_maker.specs.Moves.{May, Moves, found_by}
use Rattle.kind_words.specs.Kinds.{looked_at, counted_type, begun_work, resumed_work, MayLeave}
use Rattle.kind_words.proofs.KindWriting.{fields_write, raised_is, begun_is, resumed_is}

-- ---- places
pub kind_there : (z : Sizes) (f : ℕ) → f < z.frames → IsTrue (is_place z (Kind f))
unfolding is_place
kind_there z f h = grind (arith, nat_tests)

-- ---- kind words
allows_by : (n : Machine) (s f : ℕ) (h : Holdings) (o p : Option KindWord) (k l : KindWord) (r : KindRow) → o ≡ Some k → p ≡ Some l → kind_row k l ≡ r → AllowsKindRow r n s f k l h → AllowsKind n s f h o p
allows_by n s f h o p k l r a b row may = rw (a, b, row) may

module _ (v : PortValue) (f : ℕ) (k l : KindWord) (r : KindRow) (before : IsTrue (is_kind k)) (next : IsTrue (is_kind l)) (row : kind_row k l ≡ r) where
  pub may_exchange : (e n : ℕ) → f < v.post.machine.frames → MayWork v → IsTrue (is_kind_in v.post.machine (Some l)) → AllowsKindRow r v.post.machine v.post.vcpu f k l v.holdings → e ≡ kind_write k → n ≡ kind_write l → May v (Kind f) (Cas e n) kinds.Kind None
  unfolding IsSpelling
  may_exchange e n frame may fits allows is to =
      rw (is, to)
      (record {
        place = kind_there (sizes_of v.post.machine) f frame;
        marked = tt;
        running = λ needs. may.running;
        spelling = subst (λ o. IsTrue (is_kind_in v.post.machine o)) (sym (kind_read-write l next)) fits;
        act = allows_by v.post.machine v.post.vcpu f v.holdings _ _ k l r (kind_read-write k before) (kind_read-write l next) row allows;
      })

  pub exchanged : (w : PortValue) (e n : ℕ) → e ≡ kind_write k → n ≡ kind_write l → Moves v w (Kind f) (Cas e n) kinds.Kind None e → Holds v w (after_kind_row r f k l (kind_write l) (looked_at f (kind_write l) v.holdings))
  exchanged w e n is_e is_n moved =
      let m : Moves v w (Kind f) (Cas (kind_write k) (kind_write l)) kinds.Kind None (kind_write k) =
      subst (λ y. Moves v w (Kind f) (Cas y (kind_write l)) kinds.Kind None y) is_e (subst (λ y. Moves v w (Kind f) (Cas e y) kinds.Kind None e) is_n moved) in
      let g = looked_at f (kind_write l) v.holdings in
      ap still m.to
      ∙ ap (λ h. still (record v { holdings = h }))
      (if_itself (kind_write k) (after_kind_row (kind_row (kind_fields (kind_write k)) (kind_fields (kind_write l))) f (kind_fields (kind_write k)) (kind_fields (kind_write l)) (kind_write l) g) (looked_at f (kind_write k) v.holdings)
      ∙ ap (λ y. after_kind_row (kind_row y (kind_fields (kind_write l))) f y (kind_fields (kind_write l)) (kind_write l) g) (fields_write k before)
      ∙ ap (λ y. after_kind_row (kind_row k y) f k y (kind_write l) g) (fields_write l next)
      ∙ ap (λ y. after_kind_row y f k l (kind_write l) g) row)

pub unexchanged : (v w : PortValue) (f e n found : ℕ) → Moves v w (Kind f) (Cas e n) kinds.Kind None found → found ≢ e → Holds v w (looked_at f found v.holdings)
unexchanged v w f e n found m off =
    let whole = after_kind_row (kind_row (kind_fields e) (kind_fields n)) f (kind_fields e) (kind_fields n) n (looked_at f n v.holdings) in
    ap still m.to ∙ ap (λ b. still (record v { holdings = if b then whole else looked_at f found v.holdings })) (when_ne found e off)

-- one type count more
count_row : (k : KindWord) → IsTrue (is_live k) → kind_row k (raised_kind k) ≡ Count
count_row k live = grind (arith, nat_tests)

raised_fits : (n : Machine) (k : KindWord) → k.number < n.limit → IsTrue (is_kind_in n (Some (raised_kind k)))
raised_fits n k low = grind (arith, nat_tests)

module _ (v : PortValue) (f : ℕ) (k : KindWord) (may : MayWork v) (is : IsTrue (is_kind k)) (live : IsTrue (is_live k)) (some : 0 < k.number) (low : k.number < v.post.machine.limit) where
  raised_kind_is : IsTrue (is_kind (raised_kind k))
  raised_kind_is = let few = may.machine.few_counts in raised_is k is live some (omega arith)

  pub may_count : (e n : ℕ) → f < v.post.machine.frames → 0 < refs_to f v.holdings.refs → e ≡ kind_write k → n ≡ kind_write (raised_kind k) → May v (Kind f) (Cas e n) kinds.Kind None
  may_count e n frame held =
      may_exchange v f k (raised_kind k) Count is raised_kind_is (count_row k live) e n frame may (raised_fits v.post.machine k low)
      (record { live = live; counted = some; below = low; left = refl; in_hand = held })

  pub count_hand : (w : PortValue) (e n : ℕ) (r : Result (Unit {0}) ℕ) → e ≡ kind_write k → n ≡ kind_write (raised_kind k) → Moves v w (Kind f) (Cas e n) kinds.Kind None (found_by e r) → IfErr r (λ found. found ≢ e) →
      MatchResult r (λ done. Holds v w (counted_type f k v.holdings)) (λ found. Holds v w (looked_at f found v.holdings))
  count_hand w e n (Ok done) is_e is_n m off = exchanged v f k (raised_kind k) Count is raised_kind_is (count_row k live) w e n is_e is_n m
  count_hand w e n (Err found) is_e is_n m off = unexchanged v w f _ _ found m off

-- from dead to work
begin_row : (k : KindWord) (want : PageType) → IsTrue (is_dead k) → kind_row k (begun_kind k want) ≡ Begin
begin_row k want dead = grind (arith, nat_tests)

module _ (v : PortValue) (f : ℕ) (k : KindWord) (want : PageType) (may : MayWork v) (is : IsTrue (is_kind k)) (dead : IsTrue (is_dead k)) (wanted : IsTrue (not (is_none want))) where
  pub may_begin : (e n : ℕ) → f < v.post.machine.frames → 0 < refs_to f v.holdings.refs → e ≡ kind_write k → n ≡ kind_write (begun_kind k want) → May v (Kind f) (Cas e n) kinds.Kind None
  may_begin e n frame held =
      may_exchange v f k (begun_kind k want) Begin is (begun_is k want is dead wanted) (begin_row k want dead) e n frame may refl
      (record { dead = dead; wanted = wanted; left = refl; in_hand = held })

  pub begin_hand : (w : PortValue) (e n : ℕ) (r : Result (Unit {0}) ℕ) → e ≡ kind_write k → n ≡ kind_write (begun_kind k want) → Moves v w (Kind f) (Cas e n) kinds.Kind None (found_by e r) → IfErr r (λ found. found ≢ e) →
      MatchResult r (λ done. Holds v w (begun_work f k want v.holdings)) (λ found. Holds v w (looked_at f found v.holdings))
  begin_hand w e n (Ok done) is_e is_n m off = exchanged v f k (begun_kind k want) Begin is (begun_is k want is dead wanted) (begin_row k want dead) w e n is_e is_n m
  begin_hand w e n (Err found) is_e is_n m off = unexchanged v w f _ _ found m off

-- a store
stores_by : (n : Machine) (f : ℕ) (h : Holdings) (o : Option Work) (p : Option KindWord) (e : Work) (l : KindWord) → o ≡ Some e → p ≡ Some l → AllowsForm (form_of l) n f e l h → AllowsKindStore n f h o p
stores_by n f h o p e l a b may = rw (a, b) may

pub may_leave : (v : PortValue) (f n : ℕ) (l : KindWord) → f < v.post.machine.frames → MayWork v → MayLeave v f l → n ≡ kind_write l → May v (Kind f) (Store n) kinds.Kind None
unfolding IsSpelling
may_leave v f n l frame may leaves is =
    rw is
    (record {
      place = kind_there (sizes_of v.post.machine) f frame;
      marked = tt;
      running = λ needs. may.running;
      spelling = subst (λ o. IsTrue (is_kind_in v.post.machine o)) (sym (kind_read-write l leaves.is)) leaves.fits;
      act = stores_by v.post.machine f v.holdings _ _ leaves.work l leaves.here (kind_read-write l leaves.is) leaves.may;
    })

-- from partial to work
resume_row : (k : KindWord) → IsTrue (is_partial k) → kind_row k (resumed_kind k) ≡ Resume
resume_row k partial = grind (arith, nat_tests)

resumed_fits : (n : Machine) (k : KindWord) → IsTrue (is_partial k) → IsTrue (is_kind_in n (Some (resumed_kind k)))
resumed_fits n k partial = grind (arith, nat_tests)

module _ (v : PortValue) (f : ℕ) (k : KindWord) (may : MayWork v) (is : IsTrue (is_kind k)) (partial : IsTrue (is_partial k)) where
  pub may_resume : (e n : ℕ) → f < v.post.machine.frames → e ≡ kind_write k → n ≡ kind_write (resumed_kind k) → May v (Kind f) (Cas e n) kinds.Kind None
  may_resume e n frame =
      may_exchange v f k (resumed_kind k) Resume is (resumed_is k is partial) (resume_row k partial) e n frame may (resumed_fits v.post.machine k partial)
      (record { partial = partial; left = refl })

  pub resume_hand : (w : PortValue) (e n : ℕ) (r : Result (Unit {0}) ℕ) → e ≡ kind_write k → n ≡ kind_write (resumed_kind k) → Moves v w (Kind f) (Cas e n) kinds.Kind None (found_by e r) → IfErr r (λ found. found ≢ e) →
      MatchResult r (λ done. Holds v w (resumed_work f k v.holdings)) (λ found. Holds v w (looked_at f found v.holdings))
  resume_hand w e n (Ok done) is_e is_n m off = exchanged v f k (resumed_kind k) Resume is (resumed_is k is partial) (resume_row k partial) w e n is_e is_n m
  resume_hand w e n (Err found) is_e is_n m off = unexchanged v w f _ _ found m off

-- a type count goes down
pub may_lower : (v : PortValue) (f : ℕ) → f < v.post.machine.frames → MayWork v → MayDrop v.post.machine f v.holdings → May v (Kind f) (Add one_down) kinds.Kind None
unfolding IsSpelling
may_lower v f frame may drops =
    record { place = kind_there (sizes_of v.post.machine) f frame; marked = tt; running = λ needs. may.running; spelling = lit< tt; act = inl (refl, drops) }

pub ruleset rows = (kind_there, may_count, count_hand, may_begin, begin_hand, may_leave, may_resume, resume_hand, may_lower)
