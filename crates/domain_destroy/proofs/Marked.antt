-- A frame of a domain that is destroyed was found with a mark in its kind word, which one exchange takes off.
use Rattle.std.proofs.Common.{◌≡◌, ◌≢◌, ℕ, ◌<◌, if◌then◌else◌, Bool, true, false, List, [], ◌∷◌, ◌++◌, length, Some, None, Ok, Err, is_some, IsTrue, All, refl, sym, ap, ◌∙◌, subst, arith, inr, append-nil}
use Rattle.std.proofs.lemmas.Bool.Decides.{nat_tests}
use Rattle.std.proofs.lemmas.List.Elements.{All-cons, All-nil}
use Rattle.xp_words.specs.KindWords.{has_form, is_kind, kind_fields, kind_read, kind_write}
use Rattle.xp_words.specs.Machine.{Machine}
use Rattle.xp_words.specs.Places.{number, place_at, sizes_of}
use Rattle.xp_words.specs.declared.kind.KindWord.{KindWord}
use Rattle.xp_words.specs.declared.kind.PageType.TheVariants.{Desc}
use Rattle.xp_words.specs.declared.place.Place.TheVariants.{Kind, Refs}
use Rattle.xp_words.specs.declared.reply.Pause.TheVariants.{Lost}
use Rattle.xp_words.specs.declared.reply.Stop.{Stop}
use Rattle.xp_words.specs.declared.reply.Stop.TheVariants.{Paused}
use Rattle.xp_words.proofs.PlaceLaws.{place_back}
use Rattle.xp_words.proofs.Shared.{eq_false as when_ne}
use Rattle.xp_board.specs.Acts.{left_by}
use Rattle.xp_board.specs.KindSteps.{resumed_kind}
use Rattle.xp_board.specs.LifeSteps.{is_unkept, is_unpinned}
use Rattle.xp_board.specs.Readings.{is_partial}
use Rattle.xp_board.specs.Spelling.{is_kind_in}
use Rattle.xp_board.specs.Steps.{last_since}
use Rattle.xp_board.specs.Told.{Post, PortValue}
use Rattle.xp_board.specs.declared.holdings.Looking.{Looking}
use Rattle.xp_board.specs.declared.step.Act.TheVariants.{Cas, Load}
use Rattle.xp_board.specs.declared.step.StepKind.TheVariants as kinds
use Rattle.xp_board.proofs.KindForms.{fields_of, form_read, live_form}
use Rattle.xp_board.proofs.Sums.{when_eq}
use Rattle.step_maker.specs.Answers.{Deed, Misses, Serves, Stops, Unpins, deeds_by, exchanged, missed_at, only_if, pin_deed}
use Rattle.step_maker.specs.Asked.{IsAsked}
use Rattle.step_maker.specs.Holds.{Holds, Rests, Same, still}
use Rattle.step_maker.specs.Moves.{Came, Met, Moves}
use Rattle.step_maker.specs.Reasons.{MayType, keeps_type}
use Rattle.step_maker.proofs.Changing.{found_after, found_before}
use Rattle.step_maker.proofs.Coming.{came_post, came_trans, met_after, met_before, moment_of, moves_came, moves_met}
use Rattle.step_maker.proofs.Keeping.{kept_type}
use Rattle.step_maker.proofs.Piecing.{serves_step}
use Rattle.step_maker.proofs.Resting.{same_rests}
use Rattle.flush_words.proofs.Lasting.{last_kept, last_left, moves_longer}
use Rattle.kind_words.specs.Kinds.{looked_at}
use Rattle.kind_words.proofs.KindFacts.{IsKindFound, kind_found, live_undead, read_is}
use Rattle.kind_words.proofs.KindHands.{resumed_fields}
use Rattle.kind_words.proofs.KindWriting.{fields_write}
use Rattle.table_words.specs.Pins.{unpinned_kind}
use Rattle.table_words.proofs.PinWords.{pinned_lives, unpinned_is}
use Rattle.kept_marks.specs.Marks.{unkept_kind}
use Rattle.kept_marks.proofs.MarkWords.{partial_undead, unkept_is}
use Rattle.domain_destroy.specs.Asking.{IsDestroyDeed, ServesDestroy, StopsDestroyer, of_domain}
use Rattle.domain_destroy.specs.Clearing.{SawOwn, Unmarked}
use Rattle.domain_destroy.specs.Clearing as clearing
use Rattle.domain_destroy.specs.Destroying.{LeavesAs, TookMarks}
use Rattle.domain_destroy.proofs.Giving.{doomed_asked}
use Rattle.domain_destroy.proofs.Parts.{LooksOnly, found_there, left_after, left_before, looks_then, moved_left, one_look, same_settled}
use Rattle.table_entries.proofs.Shared.{no_looks}

-- ---- the words
-- only a partial frame has a `kept` mark
kept_form : (k : KindWord) → has_form k ≡ true → k.kept ≡ true → IsTrue (is_partial k)
unfolding has_form
kept_form k form on = grind (arith, nat_tests)

pub kept_partial : (x : ℕ) (k : KindWord) → kind_read x ≡ Some k → k.kept ≡ true → IsTrue (is_partial k)
kept_partial x k read on = kept_form k (form_read x k read) on

-- The word was read so, and the exchange leaves that one: of the same type, and without any mark.
pub record TakesOff (x : ℕ) (k new : KindWord) : Type 0 where
  pub read : kind_read x ≡ Some k
  pub next : kind_fields (kind_write new) ≡ new
  pub keeps : IsTrue (keeps_type x (kind_write new))
  pub pinless : new.pinned ≡ false
  pub keptless : new.kept ≡ false
  pub mark : Unmarked k new

module _ (x : ℕ) {k : KindWord} (read : kind_read x ≡ Some k) where
  spelled : IsTrue (is_kind k)
  spelled = (read_is x k read).0

  pub takes_pin : k.pinned ≡ true → TakesOff x k (unpinned_kind k)
  takes_pin on =
      let lives = pinned_lives k spelled on in
      let next = fields_write (unpinned_kind k) (unpinned_is k spelled lives) in
      record {
        read = read;
        next = next;
        keeps = kept_type x (kind_write (unpinned_kind k)) k (unpinned_kind k) (fields_of x k read) next refl (live_undead k lives);
        pinless = refl;
        keptless = (live_form x k read lives).unkept;
        mark = clearing.Unmarked.unpinned on;
      }

  module _ (off : k.pinned ≡ false) (on : k.kept ≡ true) where
    partial : IsTrue (is_partial k)
    partial = kept_partial x k read on

    pub takes_kept : k.kind ≢ Desc → TakesOff x k (unkept_kind k)
    takes_kept other =
        let next = fields_write (unkept_kind k) (unkept_is k spelled partial other) in
        record {
          read = read;
          next = next;
          keeps = kept_type x (kind_write (unkept_kind k)) k (unkept_kind k) (fields_of x k read) next refl (partial_undead k partial);
          pinless = off;
          keptless = refl;
          mark = clearing.Unmarked.unkept off on other;
        }

    pub takes_page : k.kind ≡ Desc → TakesOff x k (resumed_kind k)
    takes_page is =
        let next = resumed_fields k spelled partial in
        record {
          read = read;
          next = next;
          keeps = kept_type x (kind_write (resumed_kind k)) k (resumed_kind k) (fields_of x k read) next refl (partial_undead k partial);
          pinless = off;
          keptless = refl;
          mark = clearing.Unmarked.page off on is;
        }

-- ---- the hand where an exchange was lost

pub lost_same : (v a : PortValue) (f found : ℕ) → Rests v → Holds v a (looked_at f found v.holdings) → Same v a
lost_same v a f found rests hand = hand ∙ ap (λ (xs : List Looking). still (record v { holdings = record v.holdings { looking = xs } })) (no_looks f found v.holdings.looking rests.empty.looking)

-- ---- the deed of an exchange that takes a mark off
pin_gone : (f : ℕ) (on : Bool) → pin_deed f on false ≡ only_if on (Unpins f)
pin_gone f true = refl
pin_gone f false = refl

pub pin_deeds : (n : Machine) (d f : ℕ) (on : Bool) → All (IsDestroyDeed n d) (only_if on (Unpins f))
pin_deeds n d f true = All-cons (IsDestroyDeed n d) (Unpins f) [] tt (All-nil (IsDestroyDeed n d))
pin_deeds n d f false = All-nil (IsDestroyDeed n d)

-- ---- the looks before it
module _ {u v : PortValue} {d f x : ℕ} (saw : SawOwn u v d f x) where
  came_seen : Came u saw.seen
  came_seen = moves_came u saw.seen (Kind f) Load kinds.Look None x saw.kind

  came_refs : Came saw.seen v
  came_refs = moves_came saw.seen v (Refs f) Load kinds.Look None saw.word saw.refs

  pub saw_came : Came u v
  saw_came = came_trans u saw.seen v came_seen came_refs

  pub saw_looks : LooksOnly u v
  saw_looks = looks_then u saw.seen v (one_look u saw.seen (Kind f) x (λ r. tt) saw.kind) (one_look saw.seen v (Refs f) saw.word (λ r. tt) saw.refs)

  pub saw_asked : (w : PortValue) (rose : Bool) → Came v w → IsAsked u.post.machine u.post.vcpu (of_domain u.post.machine d rose) (Met u w) f
  saw_asked w rose after =
      doomed_asked u w f d saw.word rose saw.owned (found_before u v w (Refs f) saw.word after (found_after u saw.seen v (Refs f) saw.word came_seen (found_there saw.seen v (Refs f) Load kinds.Look None saw.word saw.refs)))

  -- what the look at the kind word found
  pub saw_as : (w : PortValue) (test : ℕ → Bool) → Came v w → test x ≡ true → LeavesAs u w (Kind f) test
  unfolding left_by
  saw_as w test after passes = left_before u saw.seen w (Kind f) test (came_trans saw.seen v w came_refs after) (moved_left u saw.seen (Kind f) Load kinds.Look None x test saw.kind passes)

  pub saw_inside : f < v.post.machine.frames
  saw_inside = subst (λ (p : Post). f < p.machine.frames) (sym (came_post u v saw_came)) saw.frame

  pub saw_found : IsKindFound v.post.machine x
  saw_found = subst (λ (p : Post). IsKindFound p.machine x) (sym (came_post u v saw_came)) (kind_found u.post.machine u.post.vcpu u.holdings f x saw.frame saw.kind.finds)

  pub saw_some : IsTrue (is_some (kind_read x))
  saw_some = ap is_some saw_found.read

  pub saw_fits : (k : KindWord) → kind_read x ≡ Some k → IsTrue (is_kind_in v.post.machine (Some k))
  saw_fits k read = subst (λ o. IsTrue (is_kind_in v.post.machine o)) (sym saw_found.read ∙ read) saw_found.fits

  -- the word was last found there
  still_found : last_since (sizes_of u.post.machine) (length u.holdings.steps) (Kind f) v.holdings.steps ≡ Some x
  unfolding left_by
  still_found =
      subst (λ (p : Post). last_since (sizes_of p.machine) (length u.holdings.steps) (Kind f) v.holdings.steps ≡ last_since (sizes_of p.machine) (length u.holdings.steps) (Kind f) saw.seen.holdings.steps) (came_post u saw.seen came_seen)
      (last_kept saw.seen v (Refs f) Load kinds.Look None saw.word saw.refs (length u.holdings.steps) (Kind f) (let more = moves_longer u saw.seen (Kind f) Load kinds.Look None x saw.kind in omega (arith, more)) (λ e. cc))
      ∙ last_left u saw.seen (Kind f) Load kinds.Look None x saw.kind (length u.holdings.steps) (omega arith)

  -- ---- the exchange
  module _ {k new : KindWord} (off : TakesOff x k new) {a : PortValue} {found : ℕ} (try : Moves v a (Kind f) (Cas x (kind_write new)) kinds.Kind None found) where
    came_a : Came v a
    came_a = moves_came v a (Kind f) (Cas x (kind_write new)) kinds.Kind None found try

    reason : (rose : Bool) → MayType u.post.machine u.post.vcpu (of_domain u.post.machine d rose) (Met u a) f (Cas x (kind_write new)) found v.holdings
    reason rose = inr (refl, saw_asked a rose came_a, off.keeps)

    tried : (rose : Bool) → Serves u a (of_domain u.post.machine d rose) (deeds_by (Kind f) (Cas x (kind_write new)) kinds.Kind found v.holdings ++ [])
    tried rose = serves_step u v a (of_domain u.post.machine d rose) [] (Kind f) (Cas x (kind_write new)) kinds.Kind None found (saw_looks _) try (reason rose)

    -- it found the same word
    done_deed : found ≡ x → deeds_by (Kind f) (Cas x (kind_write new)) kinds.Kind found v.holdings ≡ only_if k.pinned (Unpins f)
    done_deed at = rw (when_eq found x at, off.next, off.pinless, fields_of x k off.read) (pin_gone f k.pinned)

    pub done_steps : found ≡ x → (rose : Bool) → Serves u a (of_domain u.post.machine d rose) (only_if k.pinned (Unpins f))
    done_steps at rose = subst (Serves u a (of_domain u.post.machine d rose)) (ap (λ (ds : List Deed). ds ++ []) (done_deed at) ∙ append-nil (only_if k.pinned (Unpins f))) (tried rose)

    pub done_serves : found ≡ x → ServesDestroy {A = Unit {0}} u a d (Ok tt)
    done_serves at = record { deeds = only_if k.pinned (Unpins f); are = pin_deeds u.post.machine d f k.pinned; serves = λ rose due. done_steps at rose }

    done_left : (test : ℕ → Bool) → found ≡ x → test (kind_write new) ≡ true → (w : PortValue) → Came a w → LeavesAs u w (Kind f) test
    unfolding left_by
    done_left test at passes w after =
        left_after u v w (Kind f) test saw_came (left_before v a w (Kind f) test after
        (moved_left v a (Kind f) (Cas x (kind_write new)) kinds.Kind None found test try (rw (when_eq found x at) passes)))

    pub done_unpinned : found ≡ x → (w : PortValue) → Came a w → LeavesAs u w (Kind f) is_unpinned
    done_unpinned at = done_left is_unpinned at (rw (off.next, off.pinless) refl)

    pub done_unkept : found ≡ x → (w : PortValue) → Came a w → LeavesAs u w (Kind f) is_unkept
    done_unkept at = done_left is_unkept at (rw (off.next, off.keptless) refl)

    -- it found another word
    module _ (other : found ≢ x) where
      there : place_at (sizes_of u.post.machine) (number (sizes_of u.post.machine) (Kind f)) ≡ Kind f
      there = place_back (sizes_of u.post.machine) (Kind f) saw.kind.may.place

      missed_serves : (rose : Bool) → Serves u a (of_domain u.post.machine d rose) (missed_at (place_at (sizes_of u.post.machine) (number (sizes_of u.post.machine) (Kind f))) ++ [])
      missed_serves rose =
          rw there (subst (λ b. Serves u a (of_domain u.post.machine d rose) ((if b then exchanged (Kind f) x (kind_write new) else (Misses (Kind f) ∷ [])) ++ [])) (when_ne found x other) (tried rose))

      missed_why : (rose : Bool) → Stops u a (of_domain u.post.machine d rose) (Paused (Lost (number (sizes_of u.post.machine) (Kind f)) x found))
      unfolding Stops moment_of
      missed_why rose = (
        Kind f,
        refl,
        (λ e. cc),
        (
          record {
            before = moment_of u (Kind f) Load kinds.Look None x;
            exchange = moment_of v (Kind f) (Cas x (kind_write new)) kinds.Kind None found;
            new = kind_write new;
            was_before = met_before u saw.seen a _ (moves_met u saw.seen (Kind f) Load kinds.Look None x saw.kind) (came_trans saw.seen v a came_refs came_a);
            was_exchange = met_after u v a _ saw_came (moves_met v a (Kind f) (Cas x (kind_write new)) kinds.Kind None found try);
            place_before = refl;
            place = refl;
            act = refl;
            word = refl;
            last = still_found;
            other = other;
          },
          reason rose,
        ),
      )

      abbrev lost_in : Post → Stop
      lost_in p = Paused (Lost (number (sizes_of p.machine) (Kind f)) x found)

      pub lost_serves : ServesDestroy {A = Unit {0}} u a d (Err (Paused (Lost (number (sizes_of v.post.machine) (Kind f)) x found)))
      lost_serves =
          subst (λ (p : Post). ServesDestroy {A = Unit {0}} u a d (Err (lost_in p))) (sym (came_post u v saw_came))
          (record { deeds = []; are = All-nil (IsDestroyDeed u.post.machine d); serves = λ rose due. missed_serves rose })

      pub lost_stops : StopsDestroyer u a d (Paused (Lost (number (sizes_of v.post.machine) (Kind f)) x found))
      lost_stops = λ rose due. subst (λ (p : Post). Stops u a (of_domain u.post.machine d rose) (lost_in p)) (sym (came_post u v saw_came)) (missed_why rose)

-- ---- all that is said of it
module _ {v a : PortValue} {f x : ℕ} {k new : KindWord} (off : TakesOff x k new) (rests : Rests v) where
  pub lost_took : (found : ℕ) → Moves v a (Kind f) (Cas x (kind_write new)) kinds.Kind None found → found ≢ x → Holds v a (looked_at f found v.holdings) → TookMarks v a f x [] (Err (Paused (Lost (number (sizes_of v.post.machine) (Kind f)) x found)))
  lost_took found try other hand =
      let same = lost_same v a f found rests hand in
      record {
        came = moves_came v a (Kind f) (Cas x (kind_write new)) kinds.Kind None found try;
        rests = same_rests v a rests same;
        hand = same_settled v a same;
        clear = tt;
        serves = λ u d saw. lost_serves saw off try other;
        stops = λ u d saw. lost_stops saw off try other;
        kinds = tt;
        unpinned = tt;
        unkept = tt;
        course = clearing.TakesMarks.lost a new found (subst (λ (y : KindWord). Unmarked y new) (sym (fields_of x k off.read)) off.mark) other try;
      }

  -- as the code says it
  pub lost_code : {found : ℕ} {e : Stop} → Moves v a (Kind f) (Cas (kind_write k) (kind_write new)) kinds.Kind None found → found ≢ kind_write k → Holds v a (looked_at f found v.holdings) →
      e ≡ Paused (Lost (number (sizes_of a.post.machine) (Kind f)) x found) → TookMarks v a f x [] (Err e)
  lost_code {found} {e} try other hand is =
      let was : kind_write k ≡ x = sym (read_is x k off.read).1 in
      let same : v.post ≡ a.post = sym (ap (λ (q : PortValue). q.post) hand) in
      subst (λ y. TookMarks v a f x [] (Err y)) (ap (λ (p : Post). Paused (Lost (number (sizes_of p.machine) (Kind f)) x found)) same ∙ sym is)
      (lost_took found (subst (λ y. Moves v a (Kind f) (Cas y (kind_write new)) kinds.Kind None found) was try) (subst (λ y. found ≢ y) was other) hand)
