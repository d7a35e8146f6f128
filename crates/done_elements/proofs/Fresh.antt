-- Before a vCPU's first turn no element is done; and what elements that are done named was whole.
use Rattle.std.proofs.Common.{◌≡◌, ◌≢◌, ◌+◌, ◌<◌, ◌==◌, nat_lt, ℕ, true, false, List, [], Contains, Option, Some, None, Ok, refl, sym, ap, subst, ◌∙◌, arith}
use Rattle.std.specs.Prelude.{slice_get}
use Rattle.std.specs.List.{enumerate_from}
use Rattle.std.specs.Option.{option_map}
use Rattle.std.proofs.lemmas.Bool.Decides.{nat_tests}
use Rattle.std.proofs.lemmas.Option.{slice_get-map}
use Rattle.xp_words.specs.declared.ops.ExtOp.{ExtOp}
use Rattle.xp_words.specs.declared.ops.Op.{Op}
use Rattle.xp_words.specs.declared.reply.LogLine.TheVariants as lines
use Rattle.xp_words.specs.Machine.{Machine}
use Rattle.xp_board.specs.declared.step.Step.{Step}
use Rattle.xp_board.specs.Runs.{Run, State, start}
use Rattle.xp_board.specs.Sound.{SoundWords, hand_of}
use Rattle.xp_board.specs.Told.{Post, PortValue}
use Rattle.step_maker.proofs.Coming.{came_post}
use Rattle.sound_rule.proofs.OwnRun.{RunsSound}
use Rattle.partial_state.specs.Levels.{level_type}
use Rattle.table_bases.specs.Asking.{user_frame}
use Rattle.table_bases.specs.Course.{SetsBase}
use Rattle.table_bases.specs.Holding.{base_number}
use Rattle.table_bases.specs.declared.words.Base.{Base}
use Rattle.table_bases.specs.declared.words.Base.TheVariants.{Kernel, User}
use Rattle.mmuext_ops.specs.Course.{Performed}
use Rattle.mmuext_ops.specs.Elements.{ext_element}
use Rattle.mmuext_ops.specs.declared.element.Element.{Element}
use Rattle.mmuext_ops.specs.declared.element.Element.TheVariants.{NewBase, NewUserBase, Pin}
use Rattle.vcpu_turn.specs.Cpus.{Processing, begun}
use Rattle.vcpu_turn.specs.declared.cpu.Progress.{Progress}
use Rattle.vcpu_runners.specs.Cpus.{first_cpu, first_cpus}
use Rattle.whole_trees.specs.Whole.{IsToldBySteps, WasBase, WasPinned}
use Rattle.whole_trees.proofs.Hands.{told_on}
use Rattle.whole_trees.proofs.Basing.{base_was_set}
use Rattle.whole_trees.proofs.Pinning.{pin_was_set}
use Rattle.done_elements.specs.Replied.{WasSet}
use Rattle.done_elements.proofs.Elements.{Did}
use Rattle.done_elements.proofs.Turning.{Keeps}

-- ---- before the first turn
record IsFresh (c : Processing) : Type 0 where
  log : c.log ≡ []
  at : c.at ≡ begun

fresh_by : (n : Machine) (o : Option (ℕ × List Op)) (c : Processing) → option_map (first_cpu n) o ≡ Some c → IsFresh c
fresh_by n None c is = absurd cc
fresh_by n (Some p) c is = let same : first_cpu n p ≡ c = cc in subst IsFresh same (record { log = refl; at = refl })

first_fresh : (n : Machine) (scripts : List (List Op)) (s : ℕ) (c : Processing) → slice_get (first_cpus n scripts) s ≡ Some c → IsFresh c
unfolding first_cpus
first_fresh n scripts s c is = fresh_by n (slice_get (enumerate_from 0 scripts) s) c (sym (slice_get-map (first_cpu n) (enumerate_from 0 scripts) s) ∙ is)

nothing_in : {A : Type 0} (x : A) → Contains [] x → ⊥
nothing_in x has = absurd (omega arith)

pub keeps_first : (P : ExtOp → Type 0) (n : Machine) (scripts : List (List Op)) (s : ℕ) (c : Processing) → slice_get (first_cpus n scripts) s ≡ Some c → Keeps P c
keeps_first P n scripts s c is =
    let fresh = first_fresh n scripts s c is in
    record {
      old = λ op call list reply place in_it. absurd (nothing_in (lines.Answer op call reply) (subst (λ xs. Contains xs (lines.Answer op call reply)) fresh.log in_it));
      now = λ list next k e less. absurd (let none = ap (λ (p : Progress). p.done) fresh.at in omega arith);
    }

-- ---- on a run
is_pin : (e : ExtOp) → e.command < 4 → ext_element e ≡ Pin e.first (e.command + 1)
is_pin e low = let k : nat_lt e.command 4 ≡ true = grind (arith, nat_tests) in rw k refl

is_kernel : (e : ExtOp) → e.command ≡ 5 → ext_element e ≡ NewBase e.first
is_kernel e five = rw five refl

is_user : (e : ExtOp) → e.command ≡ 15 → ext_element e ≡ NewUserBase e.first
is_user e fifteen = rw fifteen refl

names_frame : (f : ℕ) → f ≢ 0 → user_frame f ≡ Some f
names_frame f some = let k : (f == 0) ≡ false = grind (arith, nat_tests) in rw k refl

module _ (n : Machine) (opening : List ℕ) (log : List (ℕ × Step)) (b : State) (v w : PortValue) (sound : SoundWords n opening) (runs : RunsSound) (run : Run n (start n opening) log b) (machine : v.post.machine ≡ n)
    (told : IsToldBySteps n v.post.vcpu v.holdings) (is : (hand_of b.hands v.post.vcpu).steps ≡ w.holdings.steps) (e : ExtOp) (d : Did v w e) where
  post : d.before.post ≡ v.post
  post = came_post v d.before d.came

  own : d.before.post.machine ≡ n
  own = ap (λ (q : Post). q.machine) post ∙ machine

  told_there : IsToldBySteps n d.before.post.vcpu d.before.holdings
  told_there =
      let there = told_on v d.before d.came (subst (λ m. IsToldBySteps m v.post.vcpu v.holdings) (sym machine) told) in
      subst (λ m. IsToldBySteps m d.before.post.vcpu d.before.holdings) machine (subst (λ s. IsToldBySteps v.post.machine s d.before.holdings) (sym (ap (λ (q : Post). q.vcpu) post)) there)

  steps_there : (hand_of b.hands d.before.post.vcpu).steps ≡ w.holdings.steps
  steps_there = ap (λ (q : Post). (hand_of b.hands q.vcpu).steps) post ∙ is

  set_base : (base : Base) (f : ℕ) → SetsBase d.before d.behind base (Some f) d.answers (Ok tt) → WasBase n opening log v.post.vcpu d.before.holdings.steps d.behind.holdings.steps (base_number base) f
  set_base base f sets =
      subst (λ (q : Post). WasBase n opening log q.vcpu d.before.holdings.steps d.behind.holdings.steps (base_number base) f) post (base_was_set runs n opening log b d.before d.behind w base f d.answers sound run own steps_there sets d.goes)

  by_element : (x : Element) → ext_element e ≡ x → Performed d.before d.behind d.domain x d.awaited d.answers (Ok tt)
  by_element x same = subst (λ y. Performed d.before d.behind d.domain y d.awaited d.answers (Ok tt)) same d.performed

  pin_here : e.command < 4 → WasPinned n opening log d.before.post.vcpu d.before.holdings.steps d.behind.holdings.steps e.first (level_type (e.command + 1)) →
      WasPinned n opening log v.post.vcpu d.before.holdings.steps d.behind.holdings.steps e.first (level_type (e.command + 1))
  pin_here low was = subst (λ (q : Post). WasPinned n opening log q.vcpu d.before.holdings.steps d.behind.holdings.steps e.first (level_type (e.command + 1))) post was

  pub did_whole : WasSet n opening log v.post.vcpu e
  did_whole =
      record {
        first = d.before.holdings.steps;
        last = d.behind.holdings.steps;
        pin = λ low. pin_here low (pin_was_set runs n opening log b d.before d.behind w d.domain e.first (e.command + 1) d.answers sound run own told_there steps_there (omega arith) (by_element (Pin e.first (e.command + 1)) (is_pin e low)) d.goes);
        kernel = λ five. set_base Kernel e.first (by_element (NewBase e.first) (is_kernel e five));
        user = λ fifteen some. set_base User e.first (subst (λ o. SetsBase d.before d.behind User o d.answers (Ok tt)) (names_frame e.first some) (by_element (NewUserBase e.first) (is_user e fifteen)));
      }
