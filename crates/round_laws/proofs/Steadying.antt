-- A stage that is steady is so behind a turn, and less is to be done then.
use Rattle.std.proofs.Common.{◌≡◌, ℕ, ◌<◌, ◌≤◌, ◌⊎◌, inl, inr, Bool, true, false, length, Option, Some, None, refl, sym, ap, ◌∙◌, subst, length-set, arith}
use Rattle.std.specs.Prelude.{slice_get}
use Rattle.std.proofs.lemmas.Bool.{cases_eq}
use Rattle.std.proofs.lemmas.Option.{get_or_from_slice_get, same_Some, slice_get_within}
use Rattle.xp_words.specs.Machine.{Machine}
use Rattle.xp_words.specs.Places.{sizes_of}
use Rattle.xp_words.specs.declared.ops.Op.{Op}
use Rattle.xp_words.specs.declared.place.Place.TheVariants.{Clock}
use Rattle.xp_board.specs.Hands.{IsEmptyHand}
use Rattle.xp_board.specs.Readings.{kind_at}
use Rattle.xp_board.specs.Sound.{SoundState, hand_of}
use Rattle.xp_board.specs.Told.{PortValue, Story}
use Rattle.step_maker.specs.Moves.{Came}
use Rattle.step_maker.specs.Plain.{Words}
use Rattle.answer_laws.specs.Alone.{IsAlone}
use Rattle.course_laws.specs.Courses.{IsOrderly}
use Rattle.vcpu_turn.specs.Cpus.{Processing, job_next, next_of}
use Rattle.vcpu_turn.specs.Unhindered.{IsUnhindered}
use Rattle.vcpu_turn.proofs.TurnSteps.{turn_came}
use Rattle.turn_measures.proofs.Ahead.{turn_script}
use Rattle.frame_ranks.specs.Ranks.{AreAllAlive, rank_at}
use Rattle.turn_measures.specs.Measures.{DestroysNothing, KeepsLeft}
use Rattle.xp_machine.specs.Turns.{ByCpu, IsStagedTurn, MakesStagedTurn, Stage, UnlessRetired, port_on}
use Rattle.xp_machine.proofs.Moving.{set_at}
use Rattle.round_laws.specs.Rounds.{AwaitsFlush}
use Rattle.round_laws.specs.Stages.{AreSparing, IsSparing, IsSteady, IsSteadyCpu, to_go, words_of}
use Rattle.round_laws.proofs.Cited.{TurnLaws}
use Rattle.round_laws.proofs.Counting.{number_falls, rank_most}
use Rattle.round_laws.proofs.Lessening.{TurnLeaves, kept_as}
use Rattle.round_laws.proofs.Turned.{leaves, unhindered_by}

-- ---- whose turn it is
pub record HasTurn (DoesNext : Processing → Stage → Stage → Type 0) (v : ℕ) (s s' : Stage) : Type 0 where
  pub cpu : Processing
  pub here : slice_get s.cpus v ≡ Some cpu
  pub works : cpu.retired ≡ false
  pub does : DoesNext cpu s s'

by_bool : (DoesNext : Processing → Stage → Stage → Type 0) (v : ℕ) (s s' : Stage) (c : Processing) (b : Bool) → slice_get s.cpus v ≡ Some c → c.retired ≡ b → UnlessRetired DoesNext c b s s' → ((s' ≡ s) × (c.retired ≡ true)) ⊎ HasTurn DoesNext v s s'
by_bool DoesNext v s s' c true here is does = inl (does, is)
by_bool DoesNext v s s' c false here is does = inr (record { cpu = c; here = here; works = is; does = does })

pub record HasNone (v : ℕ) (s s' : Stage) : Type 0 where
  pub cpu : Processing
  pub here : slice_get s.cpus v ≡ Some cpu
  pub retired : cpu.retired ≡ true
  pub same : s' ≡ s

by_option : (DoesNext : Processing → Stage → Stage → Type 0) (v : ℕ) (s s' : Stage) (o : Option Processing) → slice_get s.cpus v ≡ o → ByCpu DoesNext o s s' → HasNone v s s' ⊎ HasTurn DoesNext v s s'
by_option DoesNext v s s' None here does = absurd does
by_option DoesNext v s s' (Some c) here does =
    elim (by_bool DoesNext v s s' c c.retired here refl does) [
      | inl rests ↦ inl (record { cpu = c; here = here; retired = rests.1; same = rests.0 })
      | inr turns ↦ inr turns
    ]

pub by_cpu : (DoesNext : Processing → Stage → Stage → Type 0) (v : ℕ) (s s' : Stage) → ByCpu DoesNext (slice_get s.cpus v) s s' → HasNone v s s' ⊎ HasTurn DoesNext v s s'
by_cpu DoesNext v s s' does = by_option DoesNext v s s' (slice_get s.cpus v) refl does

-- ---- the list of vCPUs

-- ---- no operation of a script destroys a domain
next_sparing : (c : Processing) → AreSparing c.script → DestroysNothing (next_of c)
next_sparing c spares = by_next (next_of c) refl
  where
    by_next : (o : Option Op) → next_of c ≡ o → DestroysNothing (next_of c)
    by_next None at = subst DestroysNothing (sym at) tt
    by_next (Some op) at = subst DestroysNothing (sym at) (subst IsSparing (get_or_from_slice_get c.script c.answered op op at) (spares c.answered op (slice_get_within c.script c.answered op at)))

-- ---- a turn from a steady stage
module _ (laws : TurnLaws) (n : Machine) (v : ℕ) (c : Processing) (s s' : Stage) (steady : IsSteady n s) (here : slice_get s.cpus v ≡ Some c) (works : c.retired ≡ false) (m : MakesStagedTurn n v c s s') where
  abbrev start : PortValue
  start = port_on n v s.board

  abbrev close : PortValue
  close = port_on n v s'.board

  pub alone_from : IsAlone (port_on n v s.board)
  alone_from = record { story = s.board; telling = refl; state = steady.state; mine = refl; others = λ t real off. steady.empty t real }

  came : Came start close
  came = turn_came c m.after m.end start close m.answers m.turn

  pub alone_to : IsAlone (port_on n v s'.board)
  alone_to = laws.stays start close alone_from came

  told : alone_to.story ≡ s'.board
  told = same_Some alone_to.story s'.board (sym alone_to.telling)

  sound_to : SoundState n s'.board.words s'.board.hands
  sound_to = subst (λ (x : Story). SoundState n x.words x.hands) told alone_to.state

  most : (f : ℕ) → f < n.frames → rank_at (words_of n s') f ≤ 515
  most f real =
      let orderly : IsOrderly n (words_of n s') = laws.orderly close alone_to in
      rank_most (kind_at (words_of n s') f) (orderly.spelled f real)

  sparing : DestroysNothing (next_of c)
  sparing = next_sparing c (steady.each v c here).spares

  pub plain : TurnLeaves n v c m.after m.end (words_of n s) (words_of n s')
  plain =
      let at : IsSteadyCpu (words_of n s) v c = steady.each v c here in
      leaves laws c m.after m.end start close m.answers alone_from works at.within at.left steady.alive sparing (unhindered_by n (job_next (next_of c)) m.end sparing m.unhindered) m.turn

  within : v < length s.cpus
  within = slice_get_within s.cpus v c here

  each : (t : ℕ) (x : Processing) → slice_get s'.cpus t ≡ Some x → IsSteadyCpu (words_of n s') t x
  each t x at =
      elim (set_at s.cpus v t m.after x within (subst (λ xs. slice_get xs t ≡ Some x) m.cpus at)) [
        | inl own ↦
            subst (λ (y : ℕ × Processing). IsSteadyCpu (words_of n s') y.0 y.1) (λ i. (sym own.0 i, sym own.1 i))
            (record { within = plain.within; left = plain.left; stopped = plain.stopped; ended = plain.ended; spares = subst AreSparing (sym (turn_script c m.after m.end start close m.answers m.turn)) (steady.each v c here).spares })
        | inr other ↦
            (let old : IsSteadyCpu (words_of n s) t x = steady.each t x other.1 in
            record {
              within = old.within;
              left = kept_as (words_of n s) (words_of n s') t x.left (plain.others.words t 2 other.0 (λ same. absurd (omega arith))) old.left;
              stopped = λ is none. old.stopped is (sym (plain.others.words t 6 other.0 (λ same. absurd (omega arith))) ∙ none);
              ended = old.ended;
              spares = old.spares;
            })
      ]

  empty : (t : ℕ) → t < (sizes_of n).vcpus → IsEmptyHand (hand_of s'.board.hands t)
  empty t real =
      elim (cases_eq t v) [
        | inl at ↦ subst (λ k. IsEmptyHand (hand_of s'.board.hands k)) (sym at) m.leads.empty
        | inr off ↦
            subst (λ (x : Story). IsEmptyHand (hand_of x.hands t)) told (alone_to.others t real off)
      ]

  pub steady_then : IsSteady n s'
  steady_then =
      record {
        machine = steady.machine;
        state = sound_to;
        hands = sound_to.all_hands;
        empty = empty;
        all = ap length m.cpus ∙ length-set s.cpus v m.after ∙ steady.all;
        each = each;
        alive = λ d real. plain.others.lives d ∙ steady.alive d real;
      }

  pub lowered : (AwaitsFlush m.end × (to_go n s' ≤ to_go n s)) ⊎ (to_go n s' < to_go n s)
  lowered = number_falls n v c m.after m.end s s' here m.cpus steady steady_then plain.others most plain.less

-- ---- whoever's turn it is
module _ (laws : TurnLaws) (n : Machine) (v : ℕ) (s s' : Stage) (steady : IsSteady n s) (turn : IsStagedTurn n v s s') where
  pub steady_behind : IsSteady n s'
  steady_behind =
      elim (by_cpu (MakesStagedTurn n v) v s s' turn) [
        | inl rests ↦ subst (IsSteady n) (sym rests.same) steady
        | inr turns ↦ steady_then laws n v turns.cpu s s' steady turns.here turns.works turns.does
      ]

  pub no_more_to_go : to_go n s' ≤ to_go n s
  no_more_to_go =
      elim (by_cpu (MakesStagedTurn n v) v s s' turn) [
        | inl rests ↦ subst (λ x. to_go n x ≤ to_go n s) (sym rests.same) (no_more (to_go n s))
        | inr turns ↦
            (elim (lowered laws n v turns.cpu s s' steady turns.here turns.works turns.does) [
              | inl waits ↦ waits.1
              | inr falls ↦ lower (to_go n s') (to_go n s) falls
            ])
      ]
    where
      no_more : (k : ℕ) → k ≤ k
      no_more k = omega arith

      lower : (j k : ℕ) → j < k → j ≤ k
      lower j k less = omega arith

  pub clock_on : words_of n s Clock ≤ words_of n s' Clock
  clock_on =
      elim (by_cpu (MakesStagedTurn n v) v s s' turn) [
        | inl rests ↦ subst (λ x. words_of n s Clock ≤ words_of n x Clock) (sym rests.same) (omega arith)
        | inr turns ↦ (plain laws n v turns.cpu s s' steady turns.here turns.works turns.does).others.clock
      ]

pub less_to_go : TurnLaws → (n : Machine) (v : ℕ) (c : Processing) (s s' : Stage) → IsSteady n s → slice_get s.cpus v ≡ Some c → c.retired ≡ false → (turn : MakesStagedTurn n v c s s') → (AwaitsFlush turn.end → ⊥) → to_go n s' < to_go n s
less_to_go laws n v c s s' steady here works turn goes =
    elim (lowered laws n v c s s' steady here works turn) [
      | inl waits ↦ absurd (goes waits.0)
      | inr falls ↦ falls
    ]
