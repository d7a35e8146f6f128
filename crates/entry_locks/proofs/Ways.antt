-- What a call that locks a frame ensures, by each of its ways.
use Rattle.std.proofs.Common.{◌≡◌, ◌≢◌, ℕ, ◌≤◌, if◌then◌else◌, true, false, Some, None, Ok, Err, IsTrue, refl, sym, ap, ◌∙◌, subst}
use Rattle.xp_words.specs.declared.kind.KindWord.{KindWord}
use Rattle.xp_words.specs.declared.place.Place.TheVariants.{Kind}
use Rattle.xp_words.specs.declared.reply.Pause.TheVariants.{Busy, Lost}
use Rattle.xp_words.specs.declared.reply.Stop.{Stop}
use Rattle.xp_words.specs.declared.reply.Stop.TheVariants.{Paused}
use Rattle.xp_words.specs.KindWords.{is_kind, kind_fields, kind_read, kind_write}
use Rattle.xp_words.specs.Places.{number, sizes_of}
use Rattle.xp_board.specs.declared.step.Act.TheVariants.{Cas, Load}
use Rattle.xp_board.specs.declared.step.StepKind.TheVariants as kinds
use Rattle.xp_board.specs.Acts.{left_by}
use Rattle.xp_board.specs.KindSteps.{locked_kind}
use Rattle.xp_board.specs.Steps.{is_same}
use Rattle.xp_board.specs.Told.{Post, PortValue, is_telling, told_word}
use Rattle.xp_board.proofs.KindForms.{fields_of}
use Rattle.xp_board.proofs.Sums.{when_eq}
use Rattle.step_maker.specs.Holds.{Holds}
use Rattle.step_maker.specs.Moves.{Moves}
use Rattle.step_maker.specs.Plain.{Leaves, Words, change}
use Rattle.step_maker.proofs.Coming.{came_post, came_trans, moves_came}
use Rattle.step_maker.proofs.Telling.{leaves, load_tells, moves_telling, told_there}
use Rattle.step_maker.specs.Visits.{Does, Only, visit}
use Rattle.step_maker.proofs.Visiting.{does_as, does_one, does_then}
use Rattle.kind_words.specs.Kinds.{looked_at}
use Rattle.partial_state.specs.Levels.{level_type}
use Rattle.entry_locks.specs.declared.locking.Locked.TheVariants.{Other, Table}
use Rattle.entry_locks.specs.Found.{Exchanges, LocksBy}
use Rattle.entry_locks.specs.Locks.{is_lockable, is_worked_on, took_lock}
use Rattle.entry_locks.specs.Looked.{LocksAs, SeenToLock}
use Rattle.entry_locks.specs.Plain.{with_lock}
use Rattle.entry_locks.proofs.Exchanging.{holds_lock, lock_lost, lock_misses, lock_serves, lost_same}
use Rattle.entry_locks.proofs.Looking.{busy_stops, looked}
use Rattle.entry_locks.proofs.Standings.{when_free}

module _ (b v : PortValue) (f owner word : ℕ) (l : SeenToLock b v f owner word) (k : KindWord) (read : kind_read word ≡ Some k) where
  fields : kind_fields word ≡ k
  fields = fields_of word k read

  look_alone : Does b v (Only (visit (Kind f) Load word))
  look_alone = does_one b v _ _ _ _ word l.look

  -- ---- the look, on a board that tells all words
  module _ (telling : is_telling b ≡ true) where
    told_at : word ≡ told_word b (Kind f)
    told_at = sym (told_there b v (Kind f) Load kinds.Look None word l.look telling)

    same_words : Leaves v (told_word b)
    same_words q = load_tells b v (Kind f) kinds.Look None word l.look telling q

    still_telling : is_telling v ≡ true
    still_telling = moves_telling b v (Kind f) Load kinds.Look None word l.look ∙ telling

  -- ---- neither a live table nor one in another hand
  pub other_locks : is_lockable k ≡ false → is_worked_on k ≡ false → LocksAs b v f owner (Ok (Other word))
  other_locks off idle =
      let not_free = ap is_lockable fields ∙ off in
      let not_busy = ap is_worked_on fields ∙ idle in
      record {
        serves = looked b v f owner word l;
        stops = tt;
        kinds = tt;
        hand = l.same;
        found = does_as b v _ (λ vs. LocksBy b.post.machine f (Ok (Other word)) vs) (λ vs one. (not_free, not_busy, one)) look_alone;
        plain = λ telling. (told_at telling, not_free, not_busy, same_words telling);
      }

  -- ---- another vCPU works on it
  pub busy_locks : IsTrue (is_worked_on k) → LocksAs b v f owner (Err (Paused (Busy f word)))
  busy_locks on =
      let busy : IsTrue (is_worked_on (kind_fields word)) = ap is_worked_on fields ∙ on in
      record {
        serves = looked b v f owner word l;
        stops = busy_stops b v f owner word l k read on;
        kinds = tt;
        hand = l.same;
        found = does_as b v _ (λ vs. LocksBy b.post.machine f (Err (Paused (Busy f word))) vs) (λ vs one. (refl, busy, one)) look_alone;
        plain = λ telling. (refl, told_at telling, busy, same_words telling);
      }

  -- ---- the exchange
  module _ (w : PortValue) (is : IsTrue (is_kind k)) (was : word ≡ kind_write k) (free : is_lockable k ≡ true) (next : IsTrue (is_kind (locked_kind k))) where
    found_free : IsTrue (is_lockable (kind_fields word))
    found_free = ap is_lockable fields ∙ free

    tried : (found : ℕ) → Moves v w (Kind f) (Cas (kind_write k) (kind_write (locked_kind k))) kinds.Kind None found → Does b w (Exchanges f word found)
    tried found step =
        does_then b v w (Only (visit (Kind f) Load word)) (Only (visit (Kind f) (Cas word (kind_write (locked_kind (kind_fields word)))) found)) look_alone
        (subst (λ y. Does v w (Only (visit (Kind f) (Cas y (kind_write (locked_kind (kind_fields word)))) found))) (sym was)
        (subst (λ (y : KindWord). Does v w (Only (visit (Kind f) (Cas (kind_write k) (kind_write (locked_kind y))) found))) (sym fields) (does_one v w _ _ _ _ found step)))

    -- it found another word
    pub lost_locks : (found : ℕ) → Moves v w (Kind f) (Cas (kind_write k) (kind_write (locked_kind k))) kinds.Kind None found → found ≢ kind_write k → Holds v w (looked_at f found v.holdings) →
        (stop : Stop) → stop ≡ Paused (Lost (number (sizes_of w.post.machine) (Kind f)) word found) → LocksAs b w f owner (Err stop)
    lost_locks found step off holds stop is_stop =
        let live = (when_free k free).live in
        let came = came_trans b v w (moves_came b v _ _ _ _ word l.look) (moves_came v w _ _ _ _ found step) in
        let place = number (sizes_of w.post.machine) (Kind f) in
        let at : number (sizes_of w.post.machine) (Kind f) ≡ number (sizes_of b.post.machine) (Kind f) = ap (λ (q : Post). number (sizes_of q.machine) (Kind f)) (came_post b w came) in
        subst (λ e. LocksAs b w f owner (Err e)) (sym is_stop)
        (record {
          serves = lock_misses b v w f owner word l k is next live was found step (number (sizes_of w.post.machine) (Kind f)) at off;
          stops = lock_lost b v w f owner word l k is next live was found step (number (sizes_of w.post.machine) (Kind f)) at off;
          kinds = tt;
          hand = lost_same b v w f owner word l k is next live was found step holds;
          found = does_as b w (Exchanges f word found) (λ vs. LocksBy b.post.machine f (Err (Paused (Lost (number (sizes_of w.post.machine) (Kind f)) word found))) vs)
              (λ vs steps. (at, found_free, (λ same. off (same ∙ was)), steps)) (tried found step);
          plain = λ telling. absurd (off (sym (told_there v w _ _ _ _ found step (still_telling telling)) ∙ same_words telling (Kind f) ∙ sym (told_at telling) ∙ was));
        })

    -- it found the word of the look
    module _ (step : Moves v w (Kind f) (Cas (kind_write k) (kind_write (locked_kind k))) kinds.Kind None (kind_write k)) where
      changed_word : (y : ℕ) → y ≡ word → left_by (Cas (kind_write k) (kind_write (locked_kind k))) y ≡ kind_write (locked_kind (kind_fields y))
      unfolding left_by
      changed_word y at =
          ap (λ t. if t then kind_write (locked_kind k) else y) (when_eq y (kind_write k) (at ∙ was)) ∙ ap (λ (z : KindWord). kind_write (locked_kind z)) (sym (ap (λ z. kind_fields z) at ∙ fields))

      locked_words : is_telling b ≡ true → Leaves w (with_lock f (told_word b))
      unfolding left_by
      locked_words telling q =
          let words : told_word v ≡ told_word b = λ i p. same_words telling p i in
          leaves v w (Kind f) (Cas (kind_write k) (kind_write (locked_kind k))) kinds.Kind None (kind_write k) step (still_telling telling) q
          ∙ ap (λ (m : Words). change (Cas (kind_write k) (kind_write (locked_kind k))) (Kind f) m q) words
          ∙ ap (λ y. if is_same q (Kind f) then y else told_word b q) (changed_word (told_word b (Kind f)) (sym (told_at telling)))

      pub table_locks : (level : ℕ) → level_type level ≡ k.kind → 1 ≤ level → level ≤ 4 → Holds v w (took_lock f k v.holdings) → LocksAs b w f owner (Ok (Table level word))
      table_locks level kind low high holds =
          let live = (when_free k free).live in
          let of_level : (kind_fields word).kind ≡ level_type level = ap (λ (y : KindWord). y.kind) fields ∙ sym kind in
          record {
            serves = lock_serves b v w f owner word l k is next live was (kind_write k) step refl;
            stops = tt;
            kinds = tt;
            hand = holds_lock b v w f owner word l k is next live was (kind_write k) step holds level kind low high;
            found = does_as b w (Exchanges f word word) (λ vs. LocksBy b.post.machine f (Ok (Table level word)) vs) (λ vs steps. (found_free, of_level, steps))
                (subst (λ y. Does b w (Exchanges f word y)) (sym was) (tried (kind_write k) step));
            plain = λ telling. (told_at telling, found_free, of_level, locked_words telling);
          }
