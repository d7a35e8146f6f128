-- Turns of a machine, as rounds see them: whoever waits for a flush names a vCPU whose next turn moves the clock.
use Rattle.std.proofs.Common.{◌≡◌, ◌≢◌, ℕ, suc, ◌+◌, ◌-◌, ◌<◌, ◌≤◌, ◌⊎◌, inl, inr, All, true, false, List, [], ◌∷◌, length, Some, refl, sym, ap, ◌∙◌, subst, slice_set, length-set, arith}
use Rattle.std.specs.Prelude.{slice_get}
use Rattle.std.proofs.lemmas.Bool.{cases_Bool, cases_eq}
use Rattle.std.proofs.lemmas.List.{get_or-set_other}
use Rattle.std.proofs.lemmas.List.Elements.{All-cons, All-get_or, All-nil}
use Rattle.std.proofs.lemmas.Option.{get_or_from_slice_get, same_Some, slice_get-get_or, slice_get_cases, slice_get_within}
use Rattle.xp_words.specs.Machine.{Machine}
use Rattle.xp_words.specs.Places.{asked_of, flushed_of, run_of, sizes_of}
use Rattle.xp_words.specs.declared.place.Place.TheVariants.{Clock}
use Rattle.xp_words.specs.declared.reply.Pause.TheVariants.{Due, Lost, Busy, Flush, Alive}
use Rattle.xp_board.specs.Readings.{last_clock}
use Rattle.xp_board.specs.Told.{told_word}
use Rattle.step_maker.specs.Plain.{Words}
use Rattle.vcpu_turn.specs.Cpus.{Processing}
use Rattle.vcpu_turn.specs.Turning.{IsTurn}
use Rattle.vcpu_turn.specs.declared.cpu.TurnEnd.{TurnEnd}
use Rattle.vcpu_turn.specs.declared.cpu.TurnEnd.TheVariants as ends
use Rattle.xp_machine.specs.Turns.{IsStagedTurn, MakesStagedTurn, Stage, Turns, port_on}
use Rattle.round_laws.specs.Rounds.{AreAllRetired, AwaitsFlush, IsRound, rounds_to_go, turns_in_rounds}
use Rattle.round_laws.specs.Stages.{IsSteady, ticks_to_go, to_go, words_of}
use Rattle.round_laws.proofs.Cited.{ClockLaws, TurnLaws}
use Rattle.round_laws.proofs.Falling.{Turning, all_rest}
use Rattle.round_laws.proofs.Splitting.{one_by_one}
use Rattle.round_laws.proofs.Steadying.{by_cpu, HasTurn, alone_from, clock_on, less_to_go, no_more_to_go, plain, steady_behind, steady_then}

-- ---- vCPUs
-- it makes turns
pub record Works (t : ℕ) (s : Stage) : Type 0 where
  pub cpu : Processing
  pub here : slice_get s.cpus t ≡ Some cpu
  pub works : cpu.retired ≡ false

-- and is asked for a flush that it has not made
pub record IsAskedYet (n : Machine) (u : ℕ) (s : Stage) : Type 0 where
  pub works : Works u s
  pub asked : words_of n s (flushed_of u) ≤ words_of n s (asked_of u)

all_or_one : (cpus : List Processing) → All (λ (c : Processing). c.retired ≡ true) cpus ⊎ ((t : ℕ) × (c : Processing) × (slice_get cpus t ≡ Some c) × (c.retired ≡ false))
all_or_one [] = inl (All-nil (λ (c : Processing). c.retired ≡ true))
all_or_one (c ∷ cpus) =
    elim (cases_Bool c.retired) [
      | inl rests ↦
          (elim (all_or_one cpus) [
            | inl all ↦ inl (All-cons (λ (x : Processing). x.retired ≡ true) c cpus rests all)
            | inr one ↦ inr (suc one.0, one.1, one.2, one.3)
          ])
      | inr works ↦ inr (0, c, refl, works)
    ]

pub retired_at : (cpus : List Processing) (t : ℕ) (c : Processing) → All (λ (x : Processing). x.retired ≡ true) cpus → slice_get cpus t ≡ Some c → c.retired ≡ true
retired_at cpus t c all here =
    subst (λ (x : Processing). x.retired ≡ true) (get_or_from_slice_get cpus t c c here) (All-get_or (λ (x : Processing). x.retired ≡ true) cpus t c (slice_get_within cpus t c here) all)

not_both : (s : Stage) (t : ℕ) (c : Processing) → slice_get s.cpus t ≡ Some c → c.retired ≡ true → Works t s → ⊥
not_both s t c here retired w =
    let same : c ≡ w.cpu = same_Some c w.cpu (sym here ∙ w.here) in
    let works : c.retired ≡ false = ap (λ (x : Processing). x.retired) same ∙ w.works in
    absurd cc

-- ---- ends of turns
awaits_or_not : (end : TurnEnd) → ((u : ℕ) × (stamp : ℕ) × (found : ℕ) × (end ≡ ends.Paused (Flush u stamp found))) ⊎ (AwaitsFlush end → ⊥)
awaits_or_not (ends.Answered reply) = inr (λ waits. waits)
awaits_or_not (ends.Paused Due) = inr (λ waits. waits)
awaits_or_not (ends.Paused (Lost place expected found)) = inr (λ waits. waits)
awaits_or_not (ends.Paused (Busy frame found)) = inr (λ waits. waits)
awaits_or_not (ends.Paused (Flush u stamp found)) = inl (u, stamp, found, refl)
awaits_or_not (ends.Paused (Alive vcpu found)) = inr (λ waits. waits)
awaits_or_not ends.Retired = inr (λ waits. waits)

module _ (laws : TurnLaws) (clocks : ClockLaws) (n : Machine) where
  measure : Stage → ℕ
  measure s = to_go n s + ticks_to_go n s

  ticks_no_more : (x y l : ℕ) → x ≤ y → l - y ≤ l - x
  ticks_no_more x y l on = omega arith

  both_less : (a b c d : ℕ) → a ≤ c → b ≤ d → a + b ≤ c + d
  both_less a b c d low less = omega arith

  first_less : (a b c d : ℕ) → a < c → b ≤ d → a + b < c + d
  first_less a b c d low less = omega arith

  second_less : (a b x y l : ℕ) → a ≤ b → x < y → y < l → a + (l - y) < b + (l - x)
  second_less a b x y l low on there = omega arith

  early_clock : (x y l : ℕ) → x ≤ y → y < l → x ≢ l
  early_clock x y l on there same = absurd (omega arith)

  asks_on : (f f' a a' : ℕ) → f' ≡ f → a ≤ a' → f ≤ a → f' ≤ a'
  asks_on f f' a a' same more asked = omega arith

  no_more : (v : ℕ) (s s' : Stage) → IsSteady n s → IsStagedTurn n v s s' → measure s' ≤ measure s
  unfolding measure
  no_more v s s' steady turn =
      both_less (to_go n s') (ticks_to_go n s') (to_go n s) (ticks_to_go n s) (no_more_to_go laws n v s s' steady turn)
      (ticks_no_more (words_of n s Clock) (words_of n s' Clock) last_clock (clock_on laws n v s s' steady turn))

  module _ (v : ℕ) (s s' : Stage) (steady : IsSteady n s) (does : IsStagedTurn n v s s') where
    -- a turn that waits for a flush leaves the vCPU asked
    asked_then : (c : Processing) (here : slice_get s.cpus v ≡ Some c) (works : c.retired ≡ false) (m : MakesStagedTurn n v c s s') (u stamp found : ℕ) → m.end ≡ ends.Paused (Flush u stamp found) →
        (u < (sizes_of n).vcpus) × IsAskedYet n u s'
    asked_then c here works m u stamp found is =
        let start = port_on n v s.board in
        let close = port_on n v s'.board in
        let turn : IsTurn c m.after (ends.Paused (Flush u stamp found)) start close m.answers = subst (λ e. IsTurn c m.after e start close m.answers) is m.turn in
        let alone = alone_from laws n v c s s' steady here works m in
        let real : u < (sizes_of n).vcpus = (clocks.other c m.after start close m.answers u stamp found turn).1 in
        let behind = steady_then laws n v c s s' steady here works m in
        let runs : words_of n s' (run_of u) ≡ 0 = clocks.runs c m.after start close m.answers u stamp found alone turn in (
          real,
          record { works = works_at behind u real runs; asked = clocks.asked c m.after start close m.answers u stamp found alone turn },
        )
      where
        works_at : IsSteady n s' → (u : ℕ) → u < (sizes_of n).vcpus → words_of n s' (run_of u) ≡ 0 → Works u s'
        works_at behind u real runs =
            elim ((slice_get_cases s'.cpus u).1) [
              | inl here ↦
                  (elim (cases_Bool (here.0).retired) [
                    | inl retired ↦ absurd ((behind.each u here.0 here.2).stopped retired runs)
                    | inr works ↦ record { cpu = here.0; here = here.2; works = works }
                  ])
              | inr past ↦ absurd (let all = behind.all in let far = past.0 in omega arith)
            ]

    turns_or_not : ((s' ≡ s) × (Works v s → ⊥)) ⊎ ((measure s' < measure s) ⊎ ((u : ℕ) × (u < (sizes_of n).vcpus) × IsAskedYet n u s'))
    unfolding measure
    turns_or_not =
        elim (by_cpu (MakesStagedTurn n v) v s s' does) [
          | inl rests ↦ inl (rests.same, not_both s v rests.cpu rests.here rests.retired)
          | inr turns ↦
              inr (elim (awaits_or_not turns.does.end) [
                | inl waits ↦ (let then = asked_then turns.cpu turns.here turns.works turns.does waits.0 waits.1 waits.2 waits.3 in inr (waits.0, then.0, then.1))
                | inr goes ↦
                    inl (first_less (to_go n s') (ticks_to_go n s') (to_go n s) (ticks_to_go n s) (less_to_go laws n v turns.cpu s s' steady turns.here turns.works turns.does goes)
                    (ticks_no_more (words_of n s Clock) (words_of n s' Clock) last_clock (clock_on laws n v s s' steady does)))
              ])
        ]

    -- that lasts until the vCPU has a turn, which moves the clock
    waits_on : (u : ℕ) → words_of n s' Clock < last_clock → IsAskedYet n u s → ((v ≢ u) × IsAskedYet n u s') ⊎ (measure s' < measure s)
    unfolding measure
    waits_on u low waits =
        elim (by_cpu (MakesStagedTurn n v) v s s' does) [
          | inl rests ↦
              inl (λ same. not_both s v rests.cpu rests.here rests.retired (subst (λ k. Works k s) (sym same) waits.works), subst (IsAskedYet n u) (sym rests.same) waits)
          | inr turns ↦
              (elim (cases_eq v u) [
                | inl same ↦ inr (moves turns same)
                | inr off ↦ inl (off, still turns off)
              ])
        ]
      where
        moves : (turns : HasTurn (MakesStagedTurn n v) v s s') → v ≡ u → to_go n s' + ticks_to_go n s' < to_go n s + ticks_to_go n s
        moves turns same =
            let c = turns.cpu in
            let m = turns.does in
            let asked : words_of n s (flushed_of v) ≤ words_of n s (asked_of v) = subst (λ k. words_of n s (flushed_of k) ≤ words_of n s (asked_of k)) (sym same) waits.asked in
            let on = clock_on laws n v s s' steady does in
            let early : words_of n s Clock ≢ last_clock = early_clock (words_of n s Clock) (words_of n s' Clock) last_clock on low in
            let goes : words_of n s Clock < words_of n s' Clock =
            clocks.clock c m.after m.end (port_on n v s.board) (port_on n v s'.board) m.answers (alone_from laws n v c s s' steady turns.here turns.works m) asked early m.turn in
            second_less (to_go n s') (to_go n s) (words_of n s Clock) (words_of n s' Clock) last_clock (no_more_to_go laws n v s s' steady does) goes low

        still : (turns : HasTurn (MakesStagedTurn n v) v s s') → v ≢ u → IsAskedYet n u s'
        still turns off =
            let c = turns.cpu in
            let m = turns.does in
            let w = waits.works in
            let others = (plain laws n v c s s' steady turns.here turns.works m).others in
            let there : u < length (slice_set s.cpus v m.after) = subst (λ k. u < k) (sym (length-set s.cpus v m.after)) (slice_get_within s.cpus u w.cpu w.here) in
            record {
              works = record {
                cpu = w.cpu;
                here =
                    ap (λ xs. slice_get xs u) m.cpus ∙ slice_get-get_or (slice_set s.cpus v m.after) u w.cpu there
                    ∙ ap (λ x. Some x) (get_or-set_other s.cpus v u m.after w.cpu (λ same. off (sym same)) ∙ get_or_from_slice_get s.cpus u w.cpu w.cpu w.here);
                works = w.works;
              };
              asked = asks_on (words_of n s (flushed_of u)) (words_of n s' (flushed_of u)) (words_of n s (asked_of u)) (words_of n s' (asked_of u))
                  (others.words u 5 (λ same. off (sym same)) (λ same. absurd (omega arith))) (others.asked u (λ same. off (sym same))) waits.asked;
            }

  -- ---- rounds of such turns
  all_rest_or_one : (s : Stage) → IsSteady n s → AreAllRetired s ⊎ ((t : ℕ) × (t < (sizes_of n).vcpus) × Works t s)
  all_rest_or_one s steady =
      elim (all_or_one s.cpus) [
        | inl all ↦ inl all
        | inr one ↦ inr (one.0, subst (λ k. one.0 < k) steady.all (slice_get_within s.cpus one.0 one.1 one.2), record { cpu = one.1; here = one.2; works = one.3 })
      ]

  stay_retired : (v : ℕ) (s s' : Stage) → AreAllRetired s → IsStagedTurn n v s s' → s' ≡ s
  stay_retired v s s' all turn =
      elim (by_cpu (MakesStagedTurn n v) v s s' turn) [
        | inl rests ↦ rests.same
        | inr turns ↦ (let retired = retired_at s.cpus v turns.cpu all turns.here in let works = turns.works in absurd cc)
      ]

  turning : Turning Stage (IsStagedTurn n) (sizes_of n).vcpus
  turning =
      record {
        IsRight = IsSteady n;
        Works = Works;
        Waits = IsAskedYet n;
        AllRest = AreAllRetired;
        left = measure;
        clock = λ s. words_of n s Clock;
        last = last_clock;
        stays_right = steady_behind laws n;
        no_more = no_more;
        goes_on = clock_on laws n;
        turn = turns_or_not;
        wait = λ u v s s' steady low waits does. waits_on v s s' steady does u low waits;
        all_or_one = all_rest_or_one;
        rest = stay_retired;
      }

  pub retire_in_rounds : (rounds : List (List ℕ)) (s s' : Stage) → IsSteady n s → All (IsRound n) rounds → Turns n (turns_in_rounds rounds) s s' → words_of n s' Clock < last_clock → rounds_to_go n s ≤ length rounds → AreAllRetired s'
  unfolding measure turning
  retire_in_rounds rounds s s' steady all turns low enough =
      all_rest (IsStagedTurn n) (sizes_of n).vcpus turning rounds s s' steady low enough all (one_by_one (IsStagedTurn n) (turns_in_rounds rounds) s s' turns)
