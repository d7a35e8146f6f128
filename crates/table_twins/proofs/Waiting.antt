-- Where the words say that a frame is waited for, and what the plain value has of it then.
use Rattle.std.proofs.Common.{◌≡◌, ℕ, ◌<◌, true, false, Some, refl, ap, ◌∙◌, subst}
use Rattle.xp_words.specs.KindWords.{kind_fields}
use Rattle.xp_words.specs.Machine.{Machine}
use Rattle.xp_words.specs.declared.kind.PageType.{PageType}
use Rattle.xp_words.specs.declared.place.Place.TheVariants.{Kind}
use Rattle.xp_words.specs.declared.reply.Pause.{Pause}
use Rattle.xp_words.specs.declared.reply.Pause.TheVariants as pauses
use Rattle.xp_words.specs.declared.reply.Stop.TheVariants.{Paused}
use Rattle.xp_board.specs.Readings.{is_dead}
use Rattle.xp_board.specs.Told.{PortValue, told_word}
use Rattle.step_maker.specs.Plain.{Words}
use Rattle.step_maker.specs.Twins.{Alike}
use Rattle.kind_words.specs.Kinds.{dead_kind, partial_kind}
use Rattle.partial_state.specs.Levels.{level_type}
use Rattle.partial_state.proofs.LevelFacts.{level_type-plain, level_type-typed}
use Rattle.frame_words.specs.Plain.{put}
use Rattle.frame_types.specs.Plain.{is_own, less_kept, set_kind, stop_by, type_stop, type_waits, waits_by}
use Rattle.frame_types.specs.Standing.{standing_of}
use Rattle.frame_types.specs.declared.standing.Standing.{Standing}
use Rattle.frame_types.specs.declared.standing.Standing.TheVariants as stands
use Rattle.table_entries.specs.Plain.{WaitsPlainly, is_own_of, left_partial, left_shared}
use Rattle.table_law.specs.Levels.{closed_as}
use Rattle.table_law.specs.Plain.{Describes, Plain, Share, reference_back, with_kind}
use Rattle.table_twins.specs.Entries.{waiting}
use Rattle.table_twins.specs.Types.{IsReady, IsReadyBy}
use Rattle.table_twins.proofs.Kinding.{described_alike, kinded}
use Rattle.table_twins.proofs.Sharing.{same_back}
use Rattle.table_twins.proofs.Typing.{dead_says, dead_sober, dead_there, partial_sober}

-- ---- a busy frame
busy_by : (g h w word : ℕ) (t : PageType) (s : Standing) → standing_of (kind_fields word) t ≡ s → stop_by g t word s ≡ Some (Paused (pauses.Busy h w)) →
    (h ≡ g) × (w ≡ word) × (standing_of (kind_fields w) t ≡ stands.Busy)
busy_by g h w word t stands.Busy so stop =
    let same : w ≡ word = cc in
    (cc, same, ap (λ x. standing_of (kind_fields x) t) same ∙ so)
busy_by g h w word t stands.Other so stop = absurd cc
busy_by g h w word t stands.Counted so stop = absurd cc
busy_by g h w word t stands.Dead so stop = absurd cc
busy_by g h w word t stands.Partial so stop = absurd cc

pub busy_says : (g h w word : ℕ) (t : PageType) → type_stop g t word ≡ Some (Paused (pauses.Busy h w)) → (h ≡ g) × (w ≡ word) × (standing_of (kind_fields w) t ≡ stands.Busy)
busy_says g h w word t stop = busy_by g h w word t (standing_of (kind_fields word) t) refl stop

-- no type is stopped by another pause
abbrev IsBusyPause : Pause → Type 0
IsBusyPause (pauses.Busy h w) = Unit {0}
IsBusyPause _ = ⊥

pause_by : (g word : ℕ) (t : PageType) (s : Standing) (x : Pause) → stop_by g t word s ≡ Some (Paused x) → IsBusyPause x
pause_by g word t stands.Busy (pauses.Busy h w) stop = tt
pause_by g word t stands.Busy pauses.Due stop = absurd cc
pause_by g word t stands.Busy (pauses.Lost a b c) stop = absurd cc
pause_by g word t stands.Busy (pauses.Flush a b c) stop = absurd cc
pause_by g word t stands.Busy (pauses.Alive a b) stop = absurd cc
pause_by g word t stands.Other x stop = absurd cc
pause_by g word t stands.Counted x stop = absurd cc
pause_by g word t stands.Dead x stop = absurd cc
pause_by g word t stands.Partial x stop = absurd cc

pub only_busy : (g word : ℕ) (t : PageType) (x : Pause) → type_stop g t word ≡ Some (Paused x) → IsBusyPause x
only_busy g word t x stop = pause_by g word t (standing_of (kind_fields word) t) x stop

-- ---- a frame that waits
module _ (n : Machine) (m words : Words) (q : Plain) (l g : ℕ) (d : Describes n m q) (inside : g < n.frames) where
  as_partial : Describes n (set_kind g (partial_kind (level_type l) false true 0 0) m) (waiting g (level_type l) q)
  as_partial =
      kinded n m q g (partial_kind (level_type l) false true 0 0) (partial_kind (level_type l) false true 0 0) d (partial_sober (level_type l) (level_type-typed l) (level_type-plain l))

  as_dead : Describes n (set_kind g (dead_kind (level_type l) true 0) m) (with_kind g (dead_kind (level_type l) true 0) q)
  as_dead = kinded n m q g (dead_kind (level_type l) true 0) (dead_kind (level_type l) true 0) d (dead_sober (level_type l) (level_type-typed l))

  -- as another holder left it, and the reference given back
  pub shared_again : (s : Share) → q.shares g ≡ Some s → Alike words (left_shared g (level_type l) m) → Describes n words (reference_back g (waiting g (level_type l) q))
  shared_again s own alike =
      described_alike n words (left_shared g (level_type l) m) (reference_back g (waiting g (level_type l) q)) alike
      (same_back n (set_kind g (partial_kind (level_type l) false true 0 0) m) (waiting g (level_type l) q) g s as_partial inside own)

  dead_as : (s : Standing) → standing_of (kind_fields (m (Kind g))) (level_type l) ≡ s → s ≡ stands.Dead → is_dead (q.kinds g) ≡ true
  dead_as s so dead = dead_there n m q g d inside (level_type l) ∙ dead_says (kind_fields (m (Kind g))) (level_type l) (so ∙ dead)

  -- recorded, and partial
  partial_by : (s : Standing) → standing_of (kind_fields (m (Kind g))) (level_type l) ≡ s → IsReadyBy n (kind_fields (m (Kind g))) s → waits_by (kind_fields (m (Kind g))) (level_type l) s ≡ true →
      Alike words (set_kind g (partial_kind (level_type l) false true 0 0) (less_kept g (kind_fields (m (Kind g))) s m)) → (is_dead (q.kinds g) ≡ true) × Describes n words (waiting g (level_type l) q)
  partial_by stands.Dead so ready waits alike =
      (dead_as stands.Dead so refl, described_alike n words (set_kind g (partial_kind (level_type l) false true 0 0) m) (waiting g (level_type l) q) alike as_partial)
  partial_by stands.Partial so ready waits alike = absurd ready
  partial_by stands.Busy so ready waits alike = absurd ready
  partial_by stands.Other so ready waits alike = absurd cc
  partial_by stands.Counted so ready waits alike = absurd cc

  pub partial_again : IsReady n (level_type l) (m (Kind g)) → type_waits (level_type l) (m (Kind g)) ≡ true → Alike words (left_partial g (level_type l) m) → (is_dead (q.kinds g) ≡ true) × Describes n words (waiting g (level_type l) q)
  partial_again ready waits alike = partial_by (standing_of (kind_fields (m (Kind g))) (level_type l)) refl ready.1 waits alike

-- dead, and the reference given back
module _ (n : Machine) (m : Words) (w : PortValue) (q : Plain) (l g : ℕ) (d : Describes n m q) (inside : g < n.frames) (s : Share) (own : q.shares g ≡ Some s) where
  given_by : (a : Standing) → standing_of (kind_fields (m (Kind g))) (level_type l) ≡ a → IsReadyBy n (kind_fields (m (Kind g))) a → waits_by (kind_fields (m (Kind g))) (level_type l) a ≡ true →
      WaitsPlainly w m g (level_type l) (is_own (kind_fields (m (Kind g))) a) → (is_dead (q.kinds g) ≡ true) × Describes n (told_word w) (closed_as true g (level_type l) q)
  given_by stands.Dead so ready waits left =
      let k = kind_fields (m (Kind g)) in
      let gone = put g (set_kind g (dead_kind (level_type l) true 0) m) in (
        dead_as n m (told_word w) q l g d inside stands.Dead so refl,
        described_alike n (told_word w) gone (closed_as true g (level_type l) q) (subst (λ a. Alike (told_word w) (put g (set_kind g (dead_kind (level_type l) true 0) (less_kept g k a m)))) so left.1)
            (same_back n (set_kind g (dead_kind (level_type l) true 0) m) (with_kind g (dead_kind (level_type l) true 0) q) g s (as_dead n m (told_word w) q l g d inside) inside own),
      )
  given_by stands.Partial so ready waits left = absurd ready
  given_by stands.Busy so ready waits left = absurd ready
  given_by stands.Other so ready waits left = absurd cc
  given_by stands.Counted so ready waits left = absurd cc

  pub given_back : IsReady n (level_type l) (m (Kind g)) → type_waits (level_type l) (m (Kind g)) ≡ true → WaitsPlainly w m g (level_type l) (is_own_of m g (level_type l)) →
      (is_dead (q.kinds g) ≡ true) × Describes n (told_word w) (closed_as true g (level_type l) q)
  given_back ready waits left = given_by (standing_of (kind_fields (m (Kind g))) (level_type l)) refl ready.1 waits left
