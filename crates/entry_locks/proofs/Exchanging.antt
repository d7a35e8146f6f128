-- The exchange that locks a frame, behind the look: what it serves, why it is lost, and what it leaves in hand.
use Rattle.std.proofs.Common.{◌≡◌, ◌≢◌, ℕ, ◌+◌, ◌≤◌, if◌then◌else◌, true, false, [], ◌∷◌, ◌++◌, length, Some, None, IsTrue, refl, sym, ap, ◌∙◌, subst, arith, inr}
use Rattle.xp_words.specs.Machine.{Machine}
use Rattle.xp_words.specs.declared.kind.KindWord.{KindWord}
use Rattle.xp_words.specs.declared.place.Place.TheVariants.{Kind}
use Rattle.xp_words.specs.declared.reply.Pause.TheVariants.{Lost}
use Rattle.xp_words.specs.declared.reply.Stop.TheVariants.{Paused}
use Rattle.xp_words.specs.KindWords.{is_kind, kind_fields, kind_write}
use Rattle.xp_words.specs.Places.{number, place_at, sizes_of}
use Rattle.xp_words.proofs.PlaceLaws.{place_back}
use Rattle.xp_words.proofs.Shared.{eq_false as when_ne}
use Rattle.xp_board.specs.declared.holdings.Lock.{Lock}
use Rattle.xp_board.specs.declared.step.Act.TheVariants.{Cas, Load}
use Rattle.xp_board.specs.declared.step.StepKind.TheVariants as kinds
use Rattle.xp_board.specs.Acts.{left_by}
use Rattle.xp_board.specs.Hands.{ref_owner, without_ref}
use Rattle.xp_board.specs.KindSteps.{locked_kind}
use Rattle.xp_board.specs.Readings.{is_live}
use Rattle.xp_board.specs.Steps.{last_since}
use Rattle.xp_board.specs.Told.{PortValue}
use Rattle.xp_board.proofs.Sums.{when_eq}
use Rattle.step_maker.specs.Holds.{Holds, Same, still}
use Rattle.step_maker.specs.Moves.{Met, Moves}
use Rattle.step_maker.proofs.Coming.{moment_of, met_after, met_before, moves_came, moves_met}
use Rattle.step_maker.specs.Answers.{Misses, Serves, Stops, deeds_by, exchanged, missed_at, pin_deed}
use Rattle.step_maker.specs.Asked.{of}
use Rattle.step_maker.specs.Finding.{Finding}
use Rattle.step_maker.specs.Reasons.{MayType}
use Rattle.step_maker.proofs.Piecing.{serves_step}
use Rattle.step_maker.proofs.Keeping.{kept_type}
use Rattle.flush_words.proofs.Lasting.{last_left, moves_longer}
use Rattle.kind_words.specs.Kinds.{looked_at}
use Rattle.kind_words.proofs.KindWriting.{fields_write}
use Rattle.partial_state.specs.Levels.{level_type}
use Rattle.entry_locks.specs.Locks.{HoldsLock, of_lock, took_lock}
use Rattle.entry_locks.specs.Looked.{SeenToLock}
use Rattle.entry_locks.proofs.Looking.{asked, looked, looking, owned}

module _ (b v w : PortValue) (f owner word : ℕ) (l : SeenToLock b v f owner word) (k : KindWord) (is : IsTrue (is_kind k)) (next : IsTrue (is_kind (locked_kind k))) (live : IsTrue (is_live k)) (was : word ≡ kind_write k)
    (found : ℕ) (change : Moves v w (Kind f) (Cas (kind_write k) (kind_write (locked_kind k))) kinds.Kind None found) where
  -- the frame keeps its type
  asks : (n : Machine) (s : ℕ) (F : Finding) → MayType n s (of_lock f owner) F f (Cas (kind_write k) (kind_write (locked_kind k))) found v.holdings
  asks n s F =
      inr (refl, of owner None (asked b v f owner word l n s F), kept_type (kind_write k) (kind_write (locked_kind k)) k (locked_kind k) (fields_write k is) (fields_write (locked_kind k) next) refl (rw live refl))

  tried : Serves b w (of_lock f owner) (deeds_by (Kind f) (Cas (kind_write k) (kind_write (locked_kind k))) kinds.Kind found v.holdings ++ [])
  tried =
      serves_step b v w (of_lock f owner) [] (Kind f) (Cas (kind_write k) (kind_write (locked_kind k))) kinds.Kind None found (looked b v f owner word l) change (asks b.post.machine b.post.vcpu (Met b w))

  -- the pin stays as it was
  no_deed : exchanged (Kind f) (kind_write k) (kind_write (locked_kind k)) ≡ []
  no_deed =
      ap (λ (y : KindWord). pin_deed f y.pinned (kind_fields (kind_write (locked_kind k))).pinned) (fields_write k is) ∙ ap (λ (y : KindWord). pin_deed f k.pinned y.pinned) (fields_write (locked_kind k) next) ∙ elim k.pinned as (λ p. pin_deed f p p ≡ []) [ true ↦ refl | false ↦ refl ]

  pub lock_serves : found ≡ kind_write k → Serves b w (of_lock f owner) []
  lock_serves at =
      subst (λ ds. Serves b w (of_lock f owner) (ds ++ []))
      (ap (λ y. if y then exchanged (Kind f) (kind_write k) (kind_write (locked_kind k)) else (Misses (Kind f) ∷ [])) (when_eq found (kind_write k) at) ∙ no_deed) tried

  pub lock_misses : (place : ℕ) → place ≡ number (sizes_of b.post.machine) (Kind f) → found ≢ kind_write k → Serves b w (of_lock f owner) (missed_at (place_at (sizes_of b.post.machine) place))
  lock_misses place at off =
      let there : place_at (sizes_of b.post.machine) place ≡ Kind f = ap (λ i. place_at (sizes_of b.post.machine) i) at ∙ place_back (sizes_of b.post.machine) (Kind f) l.look.may.place in
      rw there
      (subst (λ y. Serves b w (of_lock f owner) ((if y then exchanged (Kind f) (kind_write k) (kind_write (locked_kind k)) else (Misses (Kind f) ∷ [])) ++ [])) (when_ne found (kind_write k) off) tried)

  just_looked : last_since (sizes_of b.post.machine) (length b.holdings.steps) (Kind f) v.holdings.steps ≡ Some word
  unfolding left_by
  just_looked = last_left b v (Kind f) Load kinds.Look None word l.look (length b.holdings.steps) (omega arith)

  pub lock_lost : (place : ℕ) → place ≡ number (sizes_of b.post.machine) (Kind f) → found ≢ kind_write k → Stops b w (of_lock f owner) (Paused (Lost place word found))
  unfolding Stops moment_of
  lock_lost place at off = (
    Kind f,
    at,
    (λ e. cc),
    (
      record {
        before = moment_of b (Kind f) Load kinds.Look None word;
        exchange = moment_of v (Kind f) (Cas (kind_write k) (kind_write (locked_kind k))) kinds.Kind None found;
        new = kind_write (locked_kind k);
        was_before = met_before b v w _ (moves_met b v (Kind f) Load kinds.Look None word l.look) (moves_came v w (Kind f) (Cas (kind_write k) (kind_write (locked_kind k))) kinds.Kind None found change);
        was_exchange = met_after b v w _ (moves_came b v (Kind f) Load kinds.Look None word l.look) (moves_met v w (Kind f) (Cas (kind_write k) (kind_write (locked_kind k))) kinds.Kind None found change);
        place_before = refl;
        place = refl;
        act = ap (λ y. Cas y (kind_write (locked_kind k))) (sym was);
        word = refl;
        last = just_looked;
        other = λ e. off (e ∙ was);
      },
      subst (λ y. MayType b.post.machine b.post.vcpu (of_lock f owner) (Met b w) f (Cas y (kind_write (locked_kind k))) found v.holdings) (sym was) (asks b.post.machine b.post.vcpu (Met b w)),
    ),
  )

  -- ---- the hand
  -- lost, it leaves all as it was
  pub lost_same : Holds v w (looked_at f found v.holdings) → Same b w
  lost_same holds =
      holds ∙ ap (λ xs. still (record v { holdings = record v.holdings { looking = xs } })) (looking b v f owner word l found)
      ∙ ap (λ (q : PortValue). still (record q { holdings = record q.holdings { looking = b.holdings.looking } })) l.same

  -- the lock
  abbrev new_lock : Lock
  new_lock = record { frame = f; kind = k.kind; owner = ref_owner f v.holdings; seen = None; since = length v.holdings.steps + 1 }

  lock_hand : Holds v w (took_lock f k v.holdings) → Holds b w (record b.holdings { refs = without_ref f b.holdings.refs; locks = new_lock ∷ b.holdings.locks })
  lock_hand holds =
      holds
      ∙ ap (λ xs. still (record v { holdings = record v.holdings { looking = xs; refs = without_ref f v.holdings.refs; locks = new_lock ∷ v.holdings.locks } })) (looking b v f owner word l (kind_write (locked_kind k)))
      ∙ ap (λ (q : PortValue). still (record q { holdings = record q.holdings { looking = b.holdings.looking; refs = without_ref f q.holdings.refs; locks = new_lock ∷ q.holdings.locks } })) l.same

  pub holds_lock : Holds v w (took_lock f k v.holdings) → (level : ℕ) → level_type level ≡ k.kind → 1 ≤ level → level ≤ 4 → HoldsLock b w f owner level
  holds_lock holds level kind low high =
      let longer = moves_longer v w (Kind f) (Cas (kind_write k) (kind_write (locked_kind k))) kinds.Kind None found change in
      record {
        lock = new_lock;
        is = record { frame = refl; kind = sym kind; owned = owned b v f owner word l; unseen = refl; since = omega (arith, longer) };
        low = low;
        high = high;
        hand = lock_hand holds;
      }
