-- What a board and its vCPUs are after steps of one of them.
use Rattle.std.proofs.Common.{◌≡◌, ◌≢◌, ℕ, ◌+◌, ◌^◌, ◌<◌, ◌==◌, ◌⊎◌, not, false, IsTrue, List, length, Option, Some, None, refl, sym, ap, ◌∙◌, subst, inl, inr, slice_set, slice_index_or, length-set, get_or-set_same, arith}
use Rattle.std.specs.Prelude.{slice_get}
use Rattle.std.proofs.lemmas.Bool.{cases_eq}
use Rattle.std.proofs.lemmas.List.{get_or-set_other}
use Rattle.std.proofs.lemmas.List.Elements.{All-set, All-get_or}
use Rattle.std.proofs.lemmas.Option.{slice_get-get_or, slice_get_cases, slice_get_within, get_or_from_slice_get}
use Rattle.xp_words.specs.Machine.{IsMachine, Machine}
use Rattle.xp_words.specs.Places.{sizes_of, memory, run_of}
use Rattle.xp_words.specs.declared.ops.Op.{Op}
use Rattle.xp_words.specs.declared.place.Place.TheVariants.{Life}
use Rattle.xp_words.specs.declared.reply.LogLine.{LogLine}
use Rattle.xp_board.specs.declared.holdings.Holdings.{Holdings}
use Rattle.xp_board.specs.declared.holdings.Made.{Made}
use Rattle.xp_board.specs.Readings.{domain_of}
use Rattle.xp_board.specs.Hands.{IsEmptyHand}
use Rattle.xp_board.specs.Sound.{SoundState, hand_of}
use Rattle.xp_board.specs.Steps.{some_since}
use Rattle.xp_board.specs.Told.{PortValue, Story, Goes, run_or}
use Rattle.step_maker.specs.Reasons.{HadClock}
use Rattle.answer_laws.specs.Alone.{IsAlone}
use Rattle.dead_domains.specs.Buried.{HasBuried}
use Rattle.domain_destroy.specs.Coming.{HasCome}
use Rattle.vcpu_turn.specs.Cpus.{Job, OfCalls, OfDestroy, OfOne, job_next, next_of}
use Rattle.vcpu_turn.specs.Destroying.{KnowsPlace}
use Rattle.vcpu_turn.specs.declared.cpu.Progress.{Progress}
use Rattle.vcpu_runners.specs.Turns.{IsOf, KnowsAwaited, Processing}
use Rattle.shared_board.specs.Board.{Board, port_value}
use Rattle.vcpu_runners.specs.Cpus.{AreShort, IsShort}
use Rattle.xp_machine.specs.Pieces.{Leads}
use Rattle.xp_machine.specs.Ready.{Ready}
use Rattle.xp_machine.proofs.Walking.{Walked, walked}

-- ---- the other vCPUs
-- what steps of vCPU s leave as it was
pub record Moved (n : Machine) (s : ℕ) (a b : Story) : Type 0 where
  pub opening : b.opening ≡ a.opening
  pub hands : length b.hands ≡ length a.hands
  pub others : (t : ℕ) → t ≢ s → hand_of b.hands t ≡ hand_of a.hands t

abbrev story_in : Story → Option Story → Story
story_in d (Some a) = a
story_in d None = d

pub moved_none : (n : Machine) (s : ℕ) (a b : Story) → b ≡ a → Moved n s a b
moved_none n s a b same = rw same (record { opening = refl; hands = refl; others = λ t off. refl })

-- steps by a port of the board
pub record Stepping (n : Machine) (s : ℕ) (a b : Story) : Type 0 where
  pub made : List Made
  pub leads : Leads n s a made b
  pub moved : Moved n s a b

pub stepping : (b b2 : Board) (s : ℕ) → s < (sizes_of b.machine).vcpus → length b.story.hands ≡ (sizes_of b.machine).vcpus →
    Goes (port_value b s) (port_value b2 s) → IsEmptyHand (hand_of b2.story.hands s) → Stepping b.machine s b.story b2.story
unfolding Goes
stepping b b2 s real hands goes empty =
    let n = b.machine in
    let made : List Made = goes.0 in
    let walk : Walked n s b.story (port_value b2 s) made =
    walked (port_value b s) (port_value b2 s) b.story made refl refl (subst (λ k. s < k) (sym hands) real) real goes.1 in
    let same : b2.story ≡ walk.b = ap (story_in b.story) walk.told in
    subst (λ x. Stepping n s b.story x) (sym same)
    (record {
      made = made;
      leads = record { piece = walk.piece; log = walk.log; empty = subst (λ (x : Story). IsEmptyHand (hand_of x.hands s)) same empty };
      moved = record { opening = walk.opening; hands = walk.hands; others = walk.others };
    })

-- no step
pub same_story : (b b2 : Board) (s : ℕ) → port_value b2 s ≡ port_value b s → b2.story ≡ b.story
same_story b b2 s same = ap (λ (x : PortValue). story_in b.story x.told) same

-- ---- each port is still that of its vCPU
-- A port of the same vCPU of the same machine, with the same hand.
module _ (v w : PortValue) (machine : w.post.machine ≡ v.post.machine) (vcpu : w.post.vcpu ≡ v.post.vcpu) (hand : w.holdings ≡ v.holdings) where
  as_seen : (P : Machine → ℕ → Holdings → Type 0) → P v.post.machine v.post.vcpu v.holdings → P w.post.machine w.post.vcpu w.holdings
  as_seen P is = subst (λ (y : Machine × ℕ × Holdings). P y.0 y.1 y.2) (λ i. (sym machine i, sym vcpu i, sym hand i)) is

  awaited_seen : (awaited : Option ℕ) → KnowsAwaited v awaited → KnowsAwaited w awaited
  awaited_seen None known = tt
  awaited_seen (Some stamp) known = as_seen (λ n s h. HadClock n stamp h) known

  place_seen : (job : Job) (op : ℕ) (at : Progress) (log : List LogLine) → KnowsPlace v job op at log → KnowsPlace w job op at log
  place_seen (OfOne task) op at log known = known
  place_seen (OfCalls calls) op at log known = known
  place_seen (OfDestroy x) op at log known = as_seen (λ n s h. HasCome n s x at.place op log h) known

  pub is_of_seen : (c : Processing) → w.post.run ≡ v.post.run → IsOf v c → IsOf w c
  is_of_seen c run o =
      record {
        vcpu = o.vcpu ∙ sym vcpu;
        domain = as_seen (λ n s h. c.domain ≡ domain_of n s) o.domain;
        idles = record {
          empty = as_seen (λ n s h. IsEmptyHand h) o.idles.empty;
          no_walk = as_seen (λ n s h. h.walk ≡ None) o.idles.no_walk;
          machine = as_seen (λ n s h. IsMachine n) o.idles.machine;
          warm = as_seen (λ n s h. h.cold ≡ false) o.idles.warm;
        };
        awaits = awaited_seen c.at.awaited o.awaits;
        runs = λ works. elim (o.runs works) [
          | inl runs ↦ inl ((λ i. run_or (run i) (hand i).run) ∙ runs)
          | inr dying ↦ inr (as_seen (λ n s h. IsTrue (some_since (sizes_of n) 0 (Life c.domain) (λ x. not (x == 0)) h.steps)) dying)
        ];
        frames = as_seen (λ n s h. c.frames ≡ n.frames) o.frames;
        place = place_seen (job_next (next_of c)) (c.answered + 1) c.at c.log o.place;
        ahead = o.ahead;
        buried = λ i x reply at in_it unrefused. as_seen (λ n s h. HasBuried n s x (i + 1) 0 h c.log) (o.buried i x reply at in_it unrefused);
      }

pub of_other : (b b2 : Board) (t : ℕ) (c : Processing) → b2.machine ≡ b.machine → b2.story.opening ≡ b.story.opening → hand_of b2.story.hands t ≡ hand_of b.story.hands t →
    IsOf (port_value b t) c → IsOf (port_value b2 t) c
of_other b b2 t c machine opening hand o =
    is_of_seen (port_value b t) (port_value b2 t) machine refl hand c (λ i. memory (sizes_of (machine i)) (opening i) (run_of t)) o

-- ---- the list of vCPUs
pub set_at : (cpus : List Processing) (s t : ℕ) (c2 c : Processing) → s < length cpus → slice_get (slice_set cpus s c2) t ≡ Some c → ((t ≡ s) × (c ≡ c2)) ⊎ ((t ≢ s) × (slice_get cpus t ≡ Some c))
set_at cpus s t c2 c within at =
    let there : t < length cpus = subst (λ k. t < k) (length-set cpus s c2) (slice_get_within (slice_set cpus s c2) t c at) in
    let is = get_or_from_slice_get (slice_set cpus s c2) t c c at in
    elim (cases_eq t s) [
      | inl same ↦ inl (same, sym is ∙ ap (λ k. slice_index_or (slice_set cpus s c2) k c) same ∙ get_or-set_same cpus s c2 c within)
      | inr off ↦ inr (off, slice_get-get_or cpus t c there ∙ ap (λ x. Some x) (sym (get_or-set_other cpus s t c2 c off) ∙ is))
    ]

pub short_at : (cpus : List Processing) (s : ℕ) (c : Processing) → AreShort cpus → slice_get cpus s ≡ Some c → IsShort c
short_at cpus s c all here = subst IsShort (get_or_from_slice_get cpus s c c here) (All-get_or IsShort cpus s c (slice_get_within cpus s c here) all)

-- ---- all of it
pub ready_after : (b b2 : Board) (s : ℕ) (cpus : List Processing) (c c2 : Processing) → Ready b cpus → b2.machine ≡ b.machine → Moved b.machine s b.story b2.story → slice_get cpus s ≡ Some c →
    c2.script ≡ c.script → SoundState b2.machine b2.story.words b2.story.hands → IsOf (port_value b2 s) c2 → Ready b2 (slice_set cpus s c2)
ready_after b b2 s cpus c c2 ready machine moved here script sound own =
    let vcpus : (sizes_of b2.machine).vcpus ≡ (sizes_of b.machine).vcpus = ap (λ (n : Machine). (sizes_of n).vcpus) machine in
    record {
      all = length-set cpus s c2 ∙ ready.all ∙ sym vcpus;
      hands = moved.hands ∙ ready.hands ∙ sym vcpus;
      short = All-set IsShort cpus s c2 (subst (λ (l : List Op). length l < 2 ^ 32) (sym script) (short_at cpus s c ready.short here)) ready.short;
      sound = sound;
      of = λ t x at. elim (set_at cpus s t c2 x (slice_get_within cpus s c here) at) [
        | inl same ↦ rw (same.0, same.1) own
        | inr off ↦ of_other b b2 t x machine moved.opening (moved.others t off.0) (ready.of t x off.1)
      ];
    }

-- ---- the vCPU whose turn it is, while all others have nothing in hand
pub empty_at : (b : Board) (cpus : List Processing) (s : ℕ) → Ready b cpus → s < (sizes_of b.machine).vcpus → IsEmptyHand (hand_of b.story.hands s)
empty_at b cpus s ready real =
    elim ((slice_get_cases cpus s).1) [
      | inl here ↦ (ready.of s here.0 here.2).idles.empty
      | inr past ↦ absurd (let all = ready.all in let far = past.0 in omega arith)
    ]

pub alone_at : (b : Board) (cpus : List Processing) (s : ℕ) → Ready b cpus → IsAlone (port_value b s)
alone_at b cpus s ready = record { story = b.story; telling = refl; state = ready.sound; mine = refl; others = λ t real off. empty_at b cpus t ready real }

pub sound_alone : (b : Board) (s : ℕ) → IsAlone (port_value b s) → SoundState b.machine b.story.words b.story.hands
sound_alone b s alone = subst (λ (a : Story). SoundState b.machine a.words a.hands) (sym (ap (story_in b.story) alone.telling)) alone.state
