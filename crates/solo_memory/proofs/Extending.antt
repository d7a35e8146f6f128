-- An extent by one vCPU alone comes to its plain meaning.
use Rattle.std.proofs.Common.{◌≡◌, ℕ, zero, suc, ◌+◌, ◌-◌, ◌/◌, ◌^◌, ◌<◌, ◌≤◌, ◌==◌, IfErr, max, if◌then◌else◌, Bool, true, false, List, [], Option, Some, None, Result, Ok, Err, refl, sym, ap, ◌∙◌, subst, inl, inr, arith}
use Rattle.xp_words.specs.Machine.{Machine}
use Rattle.xp_words.specs.declared.kind.KindWord.{KindWord}
use Rattle.xp_words.specs.declared.place.Place.{Place}
use Rattle.xp_words.specs.declared.place.Place.TheVariants.{M2p, Vcpu}
use Rattle.xp_words.specs.declared.reply.Refusal.{Refusal}
use Rattle.xp_words.specs.declared.reply.Refusal.TheVariants as refusals
use Rattle.xp_words.specs.declared.reply.Stop.{Stop}
use Rattle.xp_words.specs.declared.reply.Stop.TheVariants.{Refused, Paused}
use Rattle.xp_board.specs.Hands.{IsEmptyHand}
use Rattle.xp_board.specs.Lists.{Member}
use Rattle.xp_board.specs.Readings.{domain_of}
use Rattle.xp_board.specs.Told.{PortValue, is_telling, told_word}
use Rattle.step_maker.specs.Answers.{Deed, Serves, Stops}
use Rattle.step_maker.specs.Asked.{Request, of_block}
use Rattle.step_maker.specs.Holds.{Rests}
use Rattle.step_maker.specs.Moves.{Came}
use Rattle.step_maker.specs.Visits.{Does, Nothing}
use Rattle.step_maker.proofs.Visiting.{does_as, does_came}
use Rattle.answer_laws.proofs.Shared.{alone_telling}
use Rattle.replay_laws.specs.LeftAlone.{IsUnasked}
use Rattle.table_words.specs.OldWords.{old_place}
use Rattle.table_words.specs.declared.old_words.OldWord.{OldWord}
use Rattle.table_words.specs.declared.old_words.OldWord.TheVariants.{First, Second}
use Rattle.frame_claims.proofs.Telling.{words_after}
use Rattle.reservations.specs.declared.extents.Extent.{Extent}
use Rattle.reservations.specs.declared.extents.Extent.TheVariants.{Decrease, Increase, Populate}
use Rattle.reservations.specs.Extents.{IsBlock, PopulatesBy, PopulatesPlainly, Reserves, StopsExtent, TakesBy, TakesPlainly, claim_deeds, done_by, high_refusal, of_extent, too_high}
use Rattle.reservations.specs.Returning.{DecreasesPlainly, EndsAt, all_returned, of_returns, returned_deeds, returns_deeds}
use Rattle.table_twins.proofs.Entering.{described_leaves}
use Rattle.course_laws.specs.Courses.{ClockGoesOn}
use Rattle.course_laws.proofs.Awaiting.{AloneStays}
use Rattle.script_law.specs.Memory.{claim, reserve, return_frames}
use Rattle.script_law.specs.Values.{Frames, Numbers, Outcome, Solo, Whose, did, stopped, then_do, with_frames}
use Rattle.solo_ports.specs.Coming.{IsRefusedSo}
use Rattle.solo_ports.specs.Standing.{Clean, IsSettled, nothing, whose}
use Rattle.solo_memory.specs.Extents.{ComesExtent, IsReservedSo, reserve_from, return_rest}
use Rattle.solo_memory.proofs.Behind.{SetsNone, clean_behind, nothing_set}
use Rattle.solo_memory.proofs.Claiming.{claimed_clean, does_made}
use Rattle.solo_memory.proofs.Coming.{claim_never_pauses, claim_refused, claims_block, own_domain, refused_clean, refused_so}
use Rattle.solo_memory.proofs.Returning.{AreReturned, all_back, all_frames, maps_stay, next_refused, parts_by, stays_stopped, words_stay}

-- ---- frames are given back
returned_quiet : (first k : ℕ) → SetsNone (returned_deeds first k)
unfolding Member
returned_quiet first zero s i y at = at
returned_quiet first (suc k) s i y (inl is) = absurd cc
returned_quiet first (suc k) s i y (inr at) = returned_quiet first k s i y at

module _ (v w : PortValue) (x : Solo) (clean : Clean v x) (stays : AloneStays) (came : Came v w) (empty : IsEmptyHand w.holdings) (d size first from to : ℕ) where
  abbrev n : Machine
  n = v.post.machine

  telling : is_telling v ≡ true
  telling = alone_telling v clean.stands.alone

  -- how it stands behind so many of them
  module _ (ds : List Deed) (quiet : SetsNone ds) (serves : Serves v w (of_returns d size first) ds) (k : ℕ) (leaves : (q : Place) → told_word w q ≡ all_returned first from k (told_word v) q) (back : AreReturned v.post.machine d first from (told_word v) x clean.frames k) where
    old_same : (o : OldWord) → told_word w (old_place v.post.vcpu o) ≡ told_word v (old_place v.post.vcpu o)
    old_same First = leaves (Vcpu v.post.vcpu 2) ∙ words_stay first from k v.post.vcpu 2 (told_word v)
    old_same Second = leaves (Vcpu v.post.vcpu 3) ∙ words_stay first from k v.post.vcpu 3 (told_word v)

    returned_clean : Clean w (with_frames back.after x)
    returned_clean =
        clean_behind v w x clean stays came empty (of_returns d size first) ds serves refl refl quiet old_same back.after x.maps
        (λ g low. clean.stands.others.maps g low ∙ sym (leaves (M2p g) ∙ maps_stay first from k g (told_word v))) (λ g low. ap (λ (c : KindWord). c.kept) (back.kinds g) ∙ clean.stands.unkept g low)
        (described_leaves v.post.machine w (all_returned first from k (told_word v)) back.after leaves back.described)

  -- all are given back
  decreased : (call e : ℕ) → from ≤ size → to ≡ max from size → Serves v w (of_returns d size first) (returns_deeds v.post.machine first from to (Ok tt)) → DecreasesPlainly v.post.machine d first from to (told_word v) w (Ok tt) →
      IsReservedSo call e w None (return_rest v.post.machine d first from (size - from) x)
  decreased call e few ends serves plain =
      let back = all_back v.post.machine d first from (told_word v) x clean.frames (to - from) plain.may in
      let same : to - from ≡ size - from = omega arith in
      let is : return_rest v.post.machine d first from (size - from) x ≡ did (with_frames back.after x) = subst (λ j. return_rest v.post.machine d first from j x ≡ did (with_frames back.after x)) same back.is in
      record {
        fine = ap (λ (o : Outcome). o.refusal) is;
        lines = ap (λ (o : Outcome). o.lines) is;
        clean = subst (Clean w) (sym (ap (λ (o : Outcome). o.left) is)) (returned_clean (returns_deeds v.post.machine first from to (Ok tt)) (returned_quiet (first + from) (to - from)) serves (to - from) plain.leaves back);
      }

  -- or up to one that is refused
  stopped_at : (y : Refusal) → from ≤ to → to < size → Serves v w (of_returns d size first) (returns_deeds v.post.machine first from to (Err (Refused y))) → DecreasesPlainly v.post.machine d first from to (told_word v) w (Err (Refused y)) →
      IsRefusedSo w y (return_rest v.post.machine d first from (size - from) x)
  stopped_at y low less serves plain =
      let back = all_back v.post.machine d first from (told_word v) x clean.frames (to - from) plain.may in
      let ends = next_refused v.post.machine d first from (told_word v) x clean.frames (to - from) y back plain.ends in
      let is = stays_stopped v.post.machine d first from x (with_frames back.after x) (Frames ends.cause) (suc (to - from)) (size - from) (omega arith) ends.is in
      record {
        why = Frames ends.cause;
        is = ap (λ (o : Outcome). o.refusal) is;
        same = ends.same;
        none = ap (λ (o : Outcome). o.lines) is;
        owes = nothing (subst (Clean w) (sym (ap (λ (o : Outcome). o.left) is)) (returned_clean (returns_deeds v.post.machine first from to (Err (Refused y))) (returned_quiet (first + from) (to - from)) serves (to - from) plain.leaves back));
      }

-- ---- any extent
module _ (stays : AloneStays) (v w : PortValue) (x : Solo) (clean : Clean v x) (size call k : ℕ) (some : 0 < size) (goes : ClockGoesOn v w) (rests : Rests w) where
  abbrev d : ℕ
  d = domain_of v.post.machine v.post.vcpu

  small : d < 2 ^ 16
  small = let few = clean.stands.machine.few_domains in let inside = own_domain v x clean in omega arith

  -- a block
  takes : (r : Request) (block : ℕ) (gpfn : Option ℕ) (answer : Result (Option ℕ) Stop) → ((g : ℕ) → (g / size == block) ≡ false → IsUnasked r g) → r.destroys ≡ None → r.grants ≡ None → IsBlock v.post.machine size Increase block answer →
      Serves v w r (claim_deeds v.post.machine size answer) → IfErr answer (λ e. (s : Request) × Stops v w s e) → TakesPlainly v.post.machine (told_word v) d size answer → Does v w (λ vs. TakesBy v.post d size gpfn answer vs) →
      ComesExtent call k w (claim (whose v) size call k gpfn x) answer
  takes r block gpfn (Ok (Some f)) unasked spares grants is serves stops plain does =
      let o = claims_block v x clean size call k gpfn some f plain.0 plain.1 in
      record {
        fine = ap (λ (z : Outcome). z.refusal) o;
        lines = ap (λ (z : Outcome). z.lines) o;
        clean = subst (Clean w) (sym (ap (λ (z : Outcome). z.left) o)) (claimed_clean v w x clean d size f block gpfn some small is.number r serves unasked does stays rests.empty spares grants);
      }
  takes r block gpfn (Ok None) unasked spares grants is serves stops plain does = absurd is
  takes r block gpfn (Err (Refused y)) unasked spares grants is serves stops plain does =
      claim_refused v w x clean size call k gpfn some goes stops.0 y stops.1 plain (refused_clean v w x clean d size gpfn y r serves does stays rests.empty spares grants)
  takes r block gpfn (Err (Paused z)) unasked spares grants is serves stops plain does = claim_never_pauses v w x clean size call k gpfn some goes stops.0 z stops.1 plain

  -- a number that is too high is refused without a step
  high : (r : Request) → r.destroys ≡ None → r.grants ≡ None → Serves v w r [] → Does v w (λ vs. (a : Result (Option ℕ) Stop) × Nothing vs) → IsRefusedSo w refusals.BadRange (stopped (Numbers refusals.BadRange) x)
  high r spares grants serves does =
      let made = does_made v w (λ vs. (a : Result (Option ℕ) Stop) × Nothing vs) (alone_telling v clean.stands.alone) does in
      let same : (q : Place) → told_word w q ≡ told_word v q = λ q. made.leaves q ∙ ap (λ us. words_after (told_word v) us q) made.like.1 in
      let after : Clean w x =
      clean_behind v w x clean stays (does_came v w _ does) rests.empty r [] serves spares grants nothing_set (λ o. same (old_place v.post.vcpu o)) x.frames x.maps (λ g low. clean.stands.others.maps g low ∙ sym (same (M2p g))) clean.stands.unkept
      (described_leaves v.post.machine w (told_word v) x.frames same clean.frames) in
      refused_so v w x refusals.BadRange (stopped (Numbers refusals.BadRange) x) after refl

  unasked_block : (block : ℕ) (g : ℕ) → (g / size == block) ≡ false → IsUnasked (of_block d size block) g
  unasked_block block g off = record { names = off; backs = refl; entries = refl; contexts = refl; walks = refl; destroys = refl }

  populates : (gpfn : ℕ) (r : Request) (block : ℕ) (answer : Result (Option ℕ) Stop) (b : Bool) → ((g : ℕ) → (g / size == block) ≡ false → IsUnasked r g) → r.destroys ≡ None → r.grants ≡ None → IsBlock v.post.machine size Increase block answer →
      Serves v w r (claim_deeds v.post.machine size answer) → IfErr answer (λ e. (s : Request) × Stops v w s e) → PopulatesPlainly b v.post.machine (told_word v) d size answer → Does v w (λ vs. PopulatesBy b v.post d size gpfn answer vs) →
      ComesExtent call k w (if b then stopped (Numbers refusals.BadRange) x else claim (whose v) size call k (Some gpfn) x) answer
  populates gpfn r block answer true unasked spares grants is serves stops plain does =
      subst (λ a. ComesExtent call k w (stopped (Numbers refusals.BadRange) x) a) (sym plain)
      (high r spares grants (subst (λ a. Serves v w r (claim_deeds v.post.machine size a)) plain serves)
      (does_as v w (λ vs. PopulatesBy true v.post d size gpfn answer vs) (λ vs. (a : Result (Option ℕ) Stop) × Nothing vs) (λ vs t. (answer, t.1)) does))
  populates gpfn r block answer false unasked spares grants is serves stops plain does = takes r block (Some gpfn) answer unasked spares grants is serves stops plain does

  decreases : (first from to : ℕ) (answer : Result (Option ℕ) Stop) (block : ℕ) → from ≤ size → Came v w → IsBlock v.post.machine size (Decrease first) block answer → Serves v w (of_returns d size first) (returns_deeds v.post.machine first from to (done_by answer)) →
      EndsAt size from to (done_by answer) → DecreasesPlainly v.post.machine d first from to (told_word v) w (done_by answer) → ComesExtent call k w (return_rest v.post.machine d first from (size - from) x) answer
  decreases first from to (Ok None) block few came is serves place plain = decreased v w x clean stays came rests.empty d size first from to call k few place serves plain
  decreases first from to (Ok (Some f)) block few came is serves place plain = absurd is
  decreases first from to (Err (Refused y)) block few came is serves place plain = stopped_at v w x clean stays came rests.empty d size first from to y place.0 place.1 serves plain
  decreases first from to (Err (Paused z)) block few came is serves place plain = absurd plain.ends

block_for : (n : Machine) (size gpfn block : ℕ) (answer : Result (Option ℕ) Stop) → IsBlock n size (Populate gpfn) block answer → IsBlock n size Increase block answer
block_for n size gpfn block (Ok (Some f)) is = is
block_for n size gpfn block (Ok None) is = is
block_for n size gpfn block (Err e) is = tt

stops_for : (d size : ℕ) (extent : Extent) (v w : PortValue) (answer : Result (Option ℕ) Stop) → IfErr answer (λ e. StopsExtent d size extent v w e) → IfErr answer (λ e. (s : Request) × Stops v w s e)
stops_for d size extent v w (Ok a) stops = tt
stops_for d size extent v w (Err e) stops = (of_extent d size extent stops.0, stops.1)

pub comes_extent : AloneStays → (v w : PortValue) (x : Solo) (size call k : ℕ) (extent : Extent) (from left : ℕ) (answer : Result (Option ℕ) Stop) → Clean v x → 0 < size → ClockGoesOn v w → from ≤ size →
    Reserves (domain_of v.post.machine v.post.vcpu) size extent from v left w answer → ComesExtent call k w (reserve_from (whose v) size call k from extent x) answer
comes_extent stays v w x size call k Increase from left answer clean some goes few a =
    let d = domain_of v.post.machine v.post.vcpu in
    let b = a.serves.block in
    takes stays v w x clean size call k some goes a.rests (of_block d size b) b None answer (unasked_block stays v w x clean size call k some goes a.rests b) refl refl a.serves.is a.serves.serves (stops_for d size Increase v w answer a.stops)
    (a.plain clean.stands.alone) a.found
comes_extent stays v w x size call k (Populate gpfn) from left answer clean some goes few a =
    let d = domain_of v.post.machine v.post.vcpu in
    let b = a.serves.block in
    populates stays v w x clean size call k some goes a.rests gpfn (record (of_block d size b) { by_numbers = high_refusal (too_high gpfn) }) b answer (too_high gpfn)
    (λ g off. record { names = off; backs = refl; entries = refl; contexts = refl; walks = refl; destroys = refl }) refl refl (block_for v.post.machine size gpfn b answer a.serves.is) a.serves.serves (stops_for d size (Populate gpfn) v w answer a.stops)
    (a.plain clean.stands.alone) a.found
comes_extent stays v w x size call k (Decrease first) from left answer clean some goes few a =
    decreases stays v w x clean size call k some goes a.rests first from left answer a.serves.block few (does_came v w _ a.found) a.serves.is a.serves.serves a.place (a.plain (alone_telling v clean.stands.alone))

-- ---- from its beginning
pub whole_extent : (w : Whose) (size call k : ℕ) (extent : Extent) (x : Solo) → reserve_from w size call k 0 extent x ≡ reserve w size call k extent x
whole_extent w size call k Increase x = refl
whole_extent w size call k (Populate gpfn) x = refl
whole_extent w size call k (Decrease first) x = let e : size - 0 ≡ size = omega arith in ap (λ j. return_rest w.machine w.domain first 0 j x) e ∙ sym (all_frames w.machine w.domain first size x)

-- and behind its first frames
pub rest_extent : (w : Whose) (size call k first from : ℕ) (x : Solo) → from ≤ size → reserve w size call k (Decrease first) x ≡ then_do (return_frames w.machine w.domain first from x) (reserve_from w size call k from (Decrease first))
rest_extent w size call k first from x few =
    let e : from + (size - from) ≡ size = omega arith in
    all_frames w.machine w.domain first size x
    ∙ (ap (λ j. return_rest w.machine w.domain first 0 j x) (sym e)
    ∙ (parts_by w.machine w.domain first from (size - from) x ∙ ap (λ o. then_do o (return_rest w.machine w.domain first from (size - from))) (sym (all_frames w.machine w.domain first from x))))

-- what the vCPU knows of its old words stays
pub settled_extent : (v w : PortValue) (d size : ℕ) (extent : Extent) (from left : ℕ) (answer : Result (Option ℕ) Stop) → Reserves d size extent from v left w answer → IsSettled v → IsSettled w
settled_extent v w d size extent from left answer a s =
    record { first = ap (λ (y : PortValue). y.holdings.old0) a.hand ∙ s.first; second = ap (λ (y : PortValue). y.holdings.old1) a.hand ∙ s.second }
