-- An acquisition that begins where nothing is left, or goes on where the gate paused it: what its next call comes to, and what is kept where that is paused.
use Rattle.std.proofs.Common.{◌≡◌, ◌⊎◌, ℕ, ◌<◌, ◌≤◌, Bool, None, List, length, Result, Err, refl, sym, ap, ◌∙◌, subst}
use Rattle.std.proofs.lemmas.List.Elements.{All-get_or}
use Rattle.xp_words.specs.Machine.{IsMachine, Machine}
use Rattle.xp_words.specs.declared.reply.Pause.TheVariants.{Due}
use Rattle.xp_words.specs.declared.reply.Stop.{Stop}
use Rattle.xp_words.specs.declared.reply.Stop.TheVariants.{Paused}
use Rattle.xp_board.specs.Readings.{ref_count}
use Rattle.xp_board.specs.Told.{Post, PortValue, told_word}
use Rattle.step_maker.specs.Answers.{Deed, Serves}
use Rattle.step_maker.specs.Asked.{Request}
use Rattle.step_maker.specs.Moves.{Came}
use Rattle.step_maker.specs.Plain.{Words}
use Rattle.step_maker.proofs.Alikes.{same_alike}
use Rattle.step_maker.proofs.Coming.{came_post, came_trans, met_after, met_before}
use Rattle.step_maker.proofs.Telling.{came_telling}
use Rattle.answer_laws.specs.Alone.{IsAlone}
use Rattle.answer_laws.proofs.Shared.{alone_telling}
use Rattle.table_words.specs.OldWords.{old_place}
use Rattle.table_words.specs.declared.old_words.OldWord.TheVariants.{First}
use Rattle.table_entries.specs.Acquiring.{Acquired}
use Rattle.table_law.specs.Alone.{alone}
use Rattle.table_law.specs.Lawful.{IsAtRest}
use Rattle.table_law.specs.Plain.{Describes}
use Rattle.course_laws.specs.Courses.{FindsAlive, IsOrderly}
use Rattle.course_laws.proofs.Awaiting.{AloneStays}
use Rattle.course_laws.proofs.Stopping.{acquired_came}
use Rattle.pause_laws.specs.Calls.{HasRoom}
use Rattle.refusal_laws.specs.Refusals.{ComesTo}
use Rattle.refusal_laws.specs.Repeated.{PausedCalls, again, first}
use Rattle.script_law.specs.Values.{Solo}
use Rattle.solo_ports.specs.Standing.{Clean, Fair, KeepsTable, Stands, whose}
use Rattle.solo_ports.proofs.Along.{paused_on, follows_itself}
use Rattle.solo_ports.proofs.Resting.{clean_orderly, clean_rests}
use Rattle.pin_laws.proofs.Pinning.{goes_between}
use Rattle.solo_pins.proofs.Given.{CallsTelling, FirstComes, LaterComes, LeavesKept}
use Rattle.solo_ports.proofs.Between.{finds_alive}

-- ---- premises on steps, between two ports on the way
pub room_between : (v c e w : PortValue) → Came v c → Came e w → HasRoom v w → HasRoom c e
room_between v c e w before after room m g met at = subst (λ (o : Post). ref_count m.found < o.machine.limit) (sym (came_post v c before)) (room m g (met_after v c w m before (met_before c e w m met after)) at)

pub alive_between : (v c w : PortValue) (d : ℕ) → Came v c → FindsAlive v w d → FindsAlive c w d
alive_between v c w d before alive m met at = alive m (met_after v c w m before met) at

-- ---- the own domain
pub own_domain_is : (v : PortValue) (x : Solo) → Stands v x → (whose v).domain < length v.post.machine.page_limit
own_domain_is v x s = All-get_or (λ d. d < length v.post.machine.page_limit) v.post.machine.vcpu_domain v.post.vcpu 0 s.real s.machine.of_domains

pub own_alive : (v w : PortValue) (x : Solo) (d : ℕ) (r : Request) (ds : List Deed) → Stands v x → d ≡ (whose v).domain → x.lives d ≡ 0 → Serves v w r ds → r.destroys ≡ None → FindsAlive v w d
own_alive v w x d r ds s own alive serves spares =
    finds_alive v w r ds (alone_telling v s.alone) serves d spares (sym (s.others.lives d (subst (λ e. e < length v.post.machine.page_limit) (sym own) (own_domain_is v x s))) ∙ alive)

-- ---- the next call, from a port on whose way no word has changed
pub record Begins (v w : PortValue) (x : Solo) (d f level : ℕ) : Type 0 where
  pub comes : (c e : PortValue) (answers : List Bool) (answer : Result ℕ Stop) → Came v c → told_word c ≡ told_word v → Came e w → Acquired c f d level e answers answer →
      (answer ≡ Err (Paused Due)) ⊎ ComesTo v.post.machine e f level (alone v.post.machine d level f x.frames) answer
  pub keeps : (c : PortValue) (answers : List Bool) → Came v c → told_word c ≡ told_word v → Acquired c f d level w answers (Err (Paused Due)) → FindsAlive c w d → Stands w x → told_word w (old_place w.post.vcpu First) ≡ 0 → KeepsTable f d level w x

module _ (stays : AloneStays) (v w : PortValue) (x : Solo) (d f level : ℕ) (fair : Fair v w) (low : 1 ≤ level) (high : level ≤ 4) where
  abbrev n : Machine
  n = v.post.machine

  -- what is so at v is so there
  module _ (c : PortValue) (before : Came v c) (same : told_word c ≡ told_word v) where
    there : (P : Machine → Words → Type 0) → P n (told_word v) → P c.post.machine (told_word c)
    there P is = subst (λ (o : Post). P o.machine (told_word c)) (sym (came_post v c before)) (subst (P n) (sym same) is)

    machine_there : c.post.machine ≡ n
    machine_there = ap (λ (o : Post). o.machine) (came_post v c before)

    first_there : told_word v (old_place v.post.vcpu First) ≡ 0 → told_word c (old_place c.post.vcpu First) ≡ 0
    first_there none = subst (λ (o : Post). told_word c (old_place o.vcpu First) ≡ 0) (sym (came_post v c before)) (ap (λ (m : Words). m (old_place v.post.vcpu First)) same ∙ none)

    alone_there : Stands v x → IsAlone c
    alone_there s = stays v c s.alone before

    only_there : Stands v x → length c.post.machine.vcpu_domain ≡ 1
    only_there s = subst (λ (m : Machine). length m.vcpu_domain ≡ 1) (sym machine_there) s.only

  -- ---- where nothing is left
  module _ (law : FirstComes) (clean : Clean v x) where
    clean_comes : (c e : PortValue) (answers : List Bool) (answer : Result ℕ Stop) → Came v c → told_word c ≡ told_word v → Came e w → Acquired c f d level e answers answer →
        (answer ≡ Err (Paused Due)) ⊎ ComesTo n e f level (alone n d level f x.frames) answer
    clean_comes c e answers answer before same after acquired =
        subst (λ (m : Machine). (answer ≡ Err (Paused Due)) ⊎ ComesTo m e f level (alone m d level f x.frames) answer) (machine_there c before same)
        (law c e f d level x.frames answers answer (alone_there c before same clean.stands) (only_there c before same clean.stands) (there c before same IsAtRest (clean_rests v x clean)) (first_there c before same clean.first) low high
        (there c before same (λ m l. Describes m l x.frames) clean.frames) acquired (goes_between v c e w before after fair.clock))

    clean_keeps : (c : PortValue) (answers : List Bool) → Came v c → told_word c ≡ told_word v → Acquired c f d level w answers (Err (Paused Due)) → FindsAlive c w d → Stands w x → told_word w (old_place w.post.vcpu First) ≡ 0 → KeepsTable f d level w x
    clean_keeps c answers before same acquired alive stands none =
        let came = acquired_came c f d level w answers (Err (Paused Due)) acquired in
        let telling = alone_telling c (alone_there c before same clean.stands) in
        record {
          stands = stands;
          first = none;
          from = c;
          machine = ap (λ (o : Post). o.machine) (sym (came_post c w came));
          rest = there c before same IsAtRest (clean_rests v x clean);
          orderly = there c before same IsOrderly (clean_orderly v x clean);
          frames = there c before same (λ m l. Describes m l x.frames) clean.frames;
          calls = first w w answers telling acquired alive (follows_itself w (came_telling c w came ∙ telling));
        }

    pub begins_clean : Begins v w x d f level
    begins_clean = record { comes = clean_comes; keeps = clean_keeps }

  -- ---- where an acquisition was paused
  module _ (law : LaterComes) (leaves : LeavesKept) (tells : CallsTelling) (k : KeepsTable f d level v x) where
    from_machine : IsMachine k.from.post.machine
    from_machine = subst IsMachine (sym k.machine) k.stands.machine

    none_first : told_word k.from (old_place k.from.post.vcpu First) ≡ 0
    none_first = sym (leaves k.from v f d level x.frames from_machine (tells k.from v f d level k.calls) k.rest k.orderly low high k.frames k.calls).first ∙ k.first

    calls_there : (c : PortValue) → Came v c → told_word c ≡ told_word v → PausedCalls f d level k.from c
    calls_there c before same =
        paused_on f d level k.from v c k.calls (same_alike (told_word c) (told_word v) (λ q. ap (λ (m : Words). m q) same)) (came_post v c before) (came_telling v c before ∙ alone_telling v k.stands.alone)

    kept_comes : (c e : PortValue) (answers : List Bool) (answer : Result ℕ Stop) → Came v c → told_word c ≡ told_word v → Came e w → Acquired c f d level e answers answer →
        (answer ≡ Err (Paused Due)) ⊎ ComesTo n e f level (alone n d level f x.frames) answer
    kept_comes c e answers answer before same after acquired =
        subst (λ (m : Machine). (answer ≡ Err (Paused Due)) ⊎ ComesTo m e f level (alone m d level f x.frames) answer) k.machine
        (law k.from c e f d level x.frames answers answer from_machine k.rest k.orderly none_first low high k.frames (calls_there c before same) (alone_there c before same k.stands) (only_there c before same k.stands) acquired
        (goes_between v c e w before after fair.clock) (room_between v c e w before after fair.room))

    kept_keeps : (c : PortValue) (answers : List Bool) → Came v c → told_word c ≡ told_word v → Acquired c f d level w answers (Err (Paused Due)) → FindsAlive c w d → Stands w x → told_word w (old_place w.post.vcpu First) ≡ 0 → KeepsTable f d level w x
    kept_keeps c answers before same acquired alive stands none =
        let came = acquired_came c f d level w answers (Err (Paused Due)) acquired in
        let telling = alone_telling c (alone_there c before same k.stands) in
        record {
          stands = stands;
          first = none;
          from = k.from;
          machine = k.machine ∙ sym (ap (λ (o : Post). o.machine) (came_post v w (came_trans v c w before came)));
          rest = k.rest;
          orderly = k.orderly;
          frames = k.frames;
          calls = again c w w answers (calls_there c before same) acquired alive (follows_itself w (came_telling c w came ∙ telling));
        }

    pub begins_kept : Begins v w x d f level
    begins_kept = record { comes = kept_comes; keeps = kept_keeps }
