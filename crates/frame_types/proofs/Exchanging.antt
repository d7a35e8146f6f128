-- A look at the kind word, and an exchange of it: what they serve, and why they stop.
use Rattle.std.proofs.Common.{◌≡◌, ◌≢◌, ℕ, ◌<◌, if◌then◌else◌, Bool, true, false, [], ◌∷◌, ◌++◌, length, Option, Some, None, IsTrue, refl, sym, ap, ◌∙◌, subst, arith, inl}
use Rattle.xp_words.specs.Machine.{Machine}
use Rattle.xp_words.specs.declared.kind.KindWord.{KindWord}
use Rattle.xp_words.specs.declared.kind.PageType.{PageType}
use Rattle.xp_words.specs.declared.place.Place.TheVariants.{Refs, Kind}
use Rattle.xp_words.specs.declared.reply.Pause.TheVariants.{Lost, Busy}
use Rattle.xp_words.specs.declared.reply.Refusal.TheVariants.{OtherType}
use Rattle.xp_words.specs.declared.reply.Stop.TheVariants.{Refused, Paused}
use Rattle.xp_words.specs.KindWords.{is_kind, kind_read, kind_fields, kind_write}
use Rattle.xp_words.specs.Places.{number, sizes_of, place_at}
use Rattle.xp_words.proofs.PlaceLaws.{place_back}
use Rattle.xp_words.proofs.Shared.{eq_false as when_ne}
use Rattle.xp_board.specs.declared.step.Act.TheVariants.{Load, Cas}
use Rattle.xp_board.specs.declared.step.StepKind.TheVariants as kinds
use Rattle.xp_board.specs.declared.holdings.Ending.{Ending}
use Rattle.xp_board.specs.declared.holdings.Holdings.{Holdings}
use Rattle.xp_board.specs.declared.holdings.Lock.{Lock}
use Rattle.xp_board.specs.declared.holdings.Work.{Work}
use Rattle.xp_board.specs.Acts.{left_by}
use Rattle.xp_board.specs.Hands.{refs_to, work_on, lock_on, locks_on, ending_of, endings_of}
use Rattle.xp_board.specs.Readings.{is_type, is_locked, ref_count}
use Rattle.xp_board.specs.Steps.{last_since}
use Rattle.xp_board.specs.Told.{PortValue, Finds}
use Rattle.xp_board.proofs.KindForms.{fields_of}
use Rattle.xp_board.proofs.ListCounts.{first_by-none}
use Rattle.xp_board.proofs.Sums.{when_eq}
use Rattle.xp_board.proofs.Works.{nobody_locks, counted_alive}
use Rattle.step_maker.specs.Moves.{Moves, Met}
use Rattle.step_maker.proofs.Coming.{moment_of, moves_met, moves_came, met_before, met_after}
use Rattle.step_maker.specs.Answers.{Serves, Stops, Misses, missed_at, deeds_by, exchanged, pin_deed}
use Rattle.step_maker.specs.Asked.{of_frame, Asked, named, Passed, checked}
use Rattle.step_maker.specs.Finding.{Finding, FoundWith}
use Rattle.step_maker.specs.Pauses.{IsElsewhere}
use Rattle.step_maker.specs.Reasons.{MayType}
use Rattle.step_maker.proofs.Piecing.{moves_serves, serves_step}
use Rattle.kind_words.proofs.KindFacts.{types_beside, work_word}
use Rattle.kind_words.proofs.KindWriting.{fields_write}
use Rattle.flush_words.proofs.Lasting.{last_left}
use Rattle.frame_types.specs.Taking.{Looked, LentBy, IsOfOther}
use Rattle.frame_types.proofs.Classing.{IsInHand, IsOther, busy_unlocked}
use Rattle.frame_types.proofs.Entering.{lent_held, lent_known}

-- ---- a frame that is in another vCPU's hand
module _ (n : Machine) (s f w : ℕ) (h : Holdings) (k : KindWord) (finds : Finds n s h (Kind f) w) (read : kind_read w ≡ Some k) where
  fields : kind_fields w ≡ k
  fields = fields_of w k read

  no_own_work : (want : PageType) → IsOfOther f want h → is_type k.kind want ≡ true → work_on f h.works ≡ None
  no_own_work want other kind = by_work (work_on f h.works) refl
    where
      by_work : (o : Option Work) → work_on f h.works ≡ o → o ≡ None
      by_work None here = refl
      by_work (Some e) here =
          let word = work_word n s h f w e finds here in
          let off = other e here in
          let on : is_type (kind_fields e.word).kind want ≡ true = ap (λ y. is_type (kind_fields y).kind want) (sym word) ∙ ap (λ (y : KindWord). is_type y.kind want) fields ∙ kind in
          absurd (let both : true ≡ false = sym on ∙ off in cc)

  no_own_lock : is_locked k ≡ false → lock_on f h.locks ≡ None
  no_own_lock unlocked =
      first_by-none (λ (e : Lock). e.frame) f h.locks
      (subst (λ (u : Holdings). locks_on f u.locks ≡ 0) finds.mine
      (nobody_locks n finds.words finds.hands finds.sound.alone f (ap (λ y. is_locked (kind_fields y)) finds.word ∙ ap is_locked fields ∙ unlocked) s finds.real))

  not_ending : 0 < refs_to f h.refs → ending_of f h.ending ≡ None
  not_ending held =
      let beside = types_beside (sizes_of n) finds.words finds.hands s f finds.real finds.sound.counts in
      let mine : refs_to f (finds.hands s).refs ≡ refs_to f h.refs = ap (λ (u : Holdings). refs_to f u.refs) finds.mine in
      let some : 0 < ref_count (finds.words (Refs f)) = omega (arith, beside, mine, held) in
      let none = counted_alive n finds.words finds.hands finds.sound.alone f s finds.real some in
      first_by-none (λ (e : Ending). e.frame) f h.ending (subst (λ (u : Holdings). endings_of f u.ending ≡ 0) finds.mine (omega (arith, none)))

  pub is_elsewhere : (want : PageType) → IsOfOther f want h → IsInHand k want → 0 < refs_to f h.refs → IsElsewhere f h
  is_elsewhere want other busy held = (no_own_work want other busy.kind, no_own_lock (busy_unlocked w k read busy.forms), not_ending held)

-- ---- the look
module _ (b v : PortValue) (f owner : ℕ) (want : PageType) (word : ℕ) (l : Looked b v f owner want word) where
  pub asked : (n : Machine) (s : ℕ) (F : Finding) → Asked n s (of_frame f owner (Some want)) F f owner (Some want)
  asked n s F = named (when_eq f f refl) refl refl

  pub found_there : FoundWith (Met b v) (Kind f) word b.holdings
  unfolding moment_of
  found_there = record { moment = moment_of b (Kind f) Load kinds.Look None word; was = moves_met b v (Kind f) Load kinds.Look None word l.look; place = refl; word = refl; hand = refl }

  pub passed : (F : Finding) → Passed b.post.machine (of_frame f owner (Some want)) F f owner b.holdings
  passed F = checked (lent_known (sizes_of b.post.machine) f owner b.holdings l.lent)

  pub looked : Serves b v (of_frame f owner (Some want)) []
  looked = moves_serves b v (of_frame f owner (Some want)) (Kind f) Load kinds.Look None word l.look tt

  module _ (k : KindWord) (read : kind_read word ≡ Some k) where
    pub other_stops : IsOther k want → Stops b v (of_frame f owner (Some want)) (Refused (OtherType f want word))
    unfolding Stops
    other_stops is =
        inl (owner, b.holdings, asked b.post.machine b.post.vcpu (Met b v), found_there, passed (Met b v), rw (fields_of word k read, is.alive, is.kind) refl)

    pub busy_stops : IsInHand k want → Stops b v (of_frame f owner (Some want)) (Paused (Busy f word))
    unfolding Stops
    busy_stops is =
        inl (
          owner,
          Some want,
          b.holdings,
          asked b.post.machine b.post.vcpu (Met b v),
          found_there,
          passed (Met b v),
          rw (fields_of word k read) is.busy,
          rw (fields_of word k read) is.kind,
          is_elsewhere b.post.machine b.post.vcpu f word b.holdings k l.look.finds read want l.other is (lent_held f owner b.holdings l.lent),
        )

-- ---- an exchange behind it
no_pin : (f : ℕ) (p q : Bool) → q ≡ p → pin_deed f p q ≡ []
no_pin f true q is = rw is refl
no_pin f false q is = rw is refl

module _ (b v w : PortValue) (f owner : ℕ) (want : PageType) (word : ℕ) (l : Looked b v f owner want word) (k new : KindWord) (is : IsTrue (is_kind k)) (next : IsTrue (is_kind new)) (kind : new.kind ≡ want)
    (pin : new.pinned ≡ k.pinned) (was : word ≡ kind_write k) (found : ℕ) (change : Moves v w (Kind f) (Cas (kind_write k) (kind_write new)) kinds.Kind None found) where
  -- the untyped reference is in hand still, so the owner was checked
  lent_still : LentBy f owner v.holdings
  lent_still = record { others = l.lent.others; refs = ap (λ (q : PortValue). q.holdings.refs) l.same ∙ l.lent.refs }

  asks : (n : Machine) (s : ℕ) (F : Finding) → MayType n s (of_frame f owner (Some want)) F f (Cas (kind_write k) (kind_write new)) found v.holdings
  asks n s F = inl (owner, named (when_eq f f refl) refl (sym (ap (λ (y : KindWord). Some y.kind) (fields_write new next) ∙ ap (λ t. Some t) kind)), checked (lent_known (sizes_of n) f owner v.holdings lent_still))

  tried : Serves b w (of_frame f owner (Some want)) (deeds_by (Kind f) (Cas (kind_write k) (kind_write new)) kinds.Kind found v.holdings ++ [])
  tried = serves_step b v w (of_frame f owner (Some want)) [] (Kind f) (Cas (kind_write k) (kind_write new)) kinds.Kind None found (looked b v f owner want word l) change (asks b.post.machine b.post.vcpu (Met b w))

  no_deed : exchanged (Kind f) (kind_write k) (kind_write new) ≡ []
  no_deed =
      ap (λ (y : KindWord). pin_deed f y.pinned (kind_fields (kind_write new)).pinned) (fields_write k is) ∙ ap (λ (y : KindWord). pin_deed f k.pinned y.pinned) (fields_write new next) ∙ no_pin f k.pinned new.pinned pin

  pub exchange_serves : found ≡ kind_write k → Serves b w (of_frame f owner (Some want)) []
  exchange_serves at =
      subst (λ ds. Serves b w (of_frame f owner (Some want)) (ds ++ []))
      (ap (λ y. if y then exchanged (Kind f) (kind_write k) (kind_write new) else (Misses (Kind f) ∷ [])) (when_eq found (kind_write k) at) ∙ no_deed) tried

  pub exchange_misses : (place : ℕ) → place ≡ number (sizes_of b.post.machine) (Kind f) → found ≢ kind_write k → Serves b w (of_frame f owner (Some want)) (missed_at (place_at (sizes_of b.post.machine) place))
  exchange_misses place at off =
      let there : place_at (sizes_of b.post.machine) place ≡ Kind f = ap (λ i. place_at (sizes_of b.post.machine) i) at ∙ place_back (sizes_of b.post.machine) (Kind f) l.look.may.place in
      rw there
      (subst (λ y. Serves b w (of_frame f owner (Some want)) ((if y then exchanged (Kind f) (kind_write k) (kind_write new) else (Misses (Kind f) ∷ [])) ++ [])) (when_ne found (kind_write k) off) tried)

  just_looked : last_since (sizes_of b.post.machine) (length b.holdings.steps) (Kind f) v.holdings.steps ≡ Some word
  unfolding left_by
  just_looked = last_left b v (Kind f) Load kinds.Look None word l.look (length b.holdings.steps) (omega arith)

  pub exchange_lost : (place : ℕ) → place ≡ number (sizes_of b.post.machine) (Kind f) → found ≢ kind_write k → Stops b w (of_frame f owner (Some want)) (Paused (Lost place word found))
  unfolding Stops moment_of
  exchange_lost place at off = (
    Kind f,
    at,
    (λ e. cc),
    (
      record {
        before = moment_of b (Kind f) Load kinds.Look None word;
        exchange = moment_of v (Kind f) (Cas (kind_write k) (kind_write new)) kinds.Kind None found;
        new = kind_write new;
        was_before = met_before b v w _ (moves_met b v (Kind f) Load kinds.Look None word l.look) (moves_came v w (Kind f) (Cas (kind_write k) (kind_write new)) kinds.Kind None found change);
        was_exchange = met_after b v w _ (moves_came b v (Kind f) Load kinds.Look None word l.look) (moves_met v w (Kind f) (Cas (kind_write k) (kind_write new)) kinds.Kind None found change);
        place_before = refl;
        place = refl;
        act = ap (λ y. Cas y (kind_write new)) (sym was);
        word = refl;
        last = just_looked;
        other = λ e. off (e ∙ was);
      },
      subst (λ y. MayType b.post.machine b.post.vcpu (of_frame f owner (Some want)) (Met b w) f (Cas y (kind_write new)) found v.holdings) (sym was) (asks b.post.machine b.post.vcpu (Met b w)),
    ),
  )
