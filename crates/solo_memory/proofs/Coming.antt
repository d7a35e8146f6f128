-- What a claim by one vCPU alone answers is what the plain one answers.
use Rattle.std.proofs.Common.{◌≡◌, ℕ, ◌+◌, ◌*◌, ◌<◌, ◌≤◌, nat_lt, is_none, if◌then◌else◌, Bool, true, false, [], ◌∷◌, length, slice_index, Option, None, Err, refl, sym, ap, ◌∙◌, subst, arith}
use Rattle.std.proofs.lemmas.Bool.Decides.{nat_tests}
use Rattle.std.proofs.lemmas.List.Elements.{All-get_or}
use Rattle.xp_words.specs.Machine.{Machine}
use Rattle.xp_words.specs.declared.place.Place.TheVariants.{Cell, Kind, M2p, Pages, Refs}
use Rattle.xp_words.specs.KindWords.{kind_fields}
use Rattle.xp_words.specs.declared.reply.Pause.{Pause}
use Rattle.xp_words.specs.declared.reply.Pause.TheVariants as pauses
use Rattle.xp_words.specs.declared.reply.Refusal.{Refusal}
use Rattle.xp_words.specs.declared.reply.Refusal.TheVariants as refusals
use Rattle.xp_words.specs.declared.reply.Stop.TheVariants.{Refused, Paused}
use Rattle.xp_board.specs.Hands.{IsEmptyHand}
use Rattle.xp_board.specs.Readings.{domain_of, is_free}
use Rattle.xp_board.specs.Told.{PortValue, is_telling, told_word}
use Rattle.step_maker.specs.Answers.{Serves, Stops}
use Rattle.step_maker.specs.Asked.{Request}
use Rattle.step_maker.specs.Visits.{Does}
use Rattle.step_maker.proofs.Coming.{came_self}
use Rattle.step_maker.proofs.Visiting.{does_came}
use Rattle.answer_laws.proofs.OneVcpu.{never_waits}
use Rattle.answer_laws.proofs.Shared.{alone_telling}
use Rattle.table_words.specs.OldWords.{old_place}
use Rattle.table_words.specs.declared.old_words.OldWord.{OldWord}
use Rattle.frame_claims.specs.Found.{ClaimsBy}
use Rattle.frame_claims.specs.Plain.{ClaimsPlainly, HasRoom, IsFirstFree, IsWhollyFree}
use Rattle.frame_claims.proofs.Waiting.{IsAside}
use Rattle.table_law.specs.Plain.{share_of, sober}
use Rattle.course_laws.specs.Courses.{ClockGoesOn}
use Rattle.course_laws.proofs.Awaiting.{AloneStays, clock_by}
use Rattle.script_law.specs.Memory.{claim, claim_at, first_free, given, pages_of}
use Rattle.script_law.specs.Values.{Given, Numbers, Outcome, Solo, stopped}
use Rattle.solo_ports.specs.Coming.{IsRefusedSo}
use Rattle.solo_ports.specs.Standing.{Clean, nothing, whose}
use Rattle.solo_memory.proofs.Behind.{clean_behind, nothing_set}
use Rattle.solo_memory.proofs.Choosing.{first_there, none_there}
use Rattle.solo_memory.proofs.Claiming.{Made, does_made, made_away, old_aside}
use Rattle.solo_memory.proofs.Sounding.{alone_empty, alone_sound, free_is, pages_are}
use Rattle.solo_memory.proofs.Taking.{refused_away}

-- the own domain is one of the machine
pub own_domain : (v : PortValue) (x : Solo) → Clean v x → domain_of v.post.machine v.post.vcpu < length v.post.machine.page_limit
own_domain v x clean = let n = v.post.machine in All-get_or (λ d. d < length n.page_limit) n.vcpu_domain v.post.vcpu 0 clean.stands.real clean.stands.machine.of_domains

module _ (v : PortValue) (x : Solo) (clean : Clean v x) (size call k : ℕ) (gpfn : Option ℕ) (some : 0 < size) where
  abbrev n : Machine
  n = v.post.machine

  abbrev d : ℕ
  d = domain_of v.post.machine v.post.vcpu

  free : (g : ℕ) → g < v.post.machine.frames → is_free (told_word v (Refs g)) ≡ is_none (x.frames.shares g)
  free g low =
      free_is v.post.machine (told_word v) _ (alone_sound v clean.stands.alone) (alone_empty v clean.stands.alone clean.stands.empty) g low ∙ ap is_none (sym (clean.frames.shares g low))

  pages : told_word v (Pages (domain_of v.post.machine v.post.vcpu)) ≡ pages_of v.post.machine (domain_of v.post.machine v.post.vcpu) x.frames
  pages = pages_are v.post.machine (told_word v) _ (alone_sound v clean.stands.alone) (alone_empty v clean.stands.alone clean.stands.empty) x.frames (domain_of v.post.machine v.post.vcpu) clean.frames (own_domain v x clean)

  abbrev count : ℕ
  count = pages_of v.post.machine (domain_of v.post.machine v.post.vcpu) x.frames

  within : HasRoom v.post.machine (told_word v) (domain_of v.post.machine v.post.vcpu) size → nat_lt (slice_index n.page_limit d) (count + size) ≡ false
  within room = let same = pages in grind (arith, nat_tests, same, room)

  beyond : (HasRoom v.post.machine (told_word v) (domain_of v.post.machine v.post.vcpu) size → ⊥) → nat_lt (slice_index n.page_limit d) (count + size) ≡ true
  beyond full = by (nat_lt (slice_index n.page_limit d) (count + size)) refl
    where
      by : (b : Bool) → nat_lt (slice_index n.page_limit d) (count + size) ≡ b → b ≡ true
      by true is = refl
      by false is = absurd (full (let same = pages in grind (arith, nat_tests, same, is)))

  abbrev asked : Bool → Outcome
  asked b = if b then stopped (Numbers (refusals.DomainFull count)) x else claim_at d size call k gpfn x (first_free n size x.frames)

  pub claims_block : (f : ℕ) → HasRoom v.post.machine (told_word v) d size → IsFirstFree v.post.machine (told_word v) size f →
      claim (whose v) size call k gpfn x ≡ record { refusal = None; value = 0; lines = Given call k f ∷ []; left = given d f size gpfn x }
  claims_block f room first =
      let there = first_there n (told_word v) x.frames size some free f first in
      ap asked (within room) ∙ (ap (claim_at d size call k gpfn x) there.0 ∙ ap (λ h. record { refusal = None; value = 0; lines = Given call k h ∷ []; left = given d h size gpfn x }) there.1)

  pub claims_none : HasRoom v.post.machine (told_word v) d size → ((b : ℕ) → b * size + size ≤ v.post.machine.frames → IsWhollyFree (told_word v) size (b * size) → ⊥) → claim (whose v) size call k gpfn x ≡ stopped (Numbers refusals.NoFree) x
  claims_none room off = ap asked (within room) ∙ ap (claim_at d size call k gpfn x) (none_there n (told_word v) x.frames size some free off)

  pub claims_full : (HasRoom v.post.machine (told_word v) d size → ⊥) → claim (whose v) size call k gpfn x ≡ stopped (Numbers (refusals.DomainFull (told_word v (Pages d)))) x
  claims_full full = ap asked (beyond full) ∙ ap (λ c. stopped (Numbers (refusals.DomainFull c)) x) (sym pages)

-- ---- refused
pub refused_so : (v w : PortValue) (x : Solo) (y : Refusal) (o : Outcome) → Clean w x → o ≡ stopped (Numbers y) x → IsRefusedSo w y o
refused_so v w x y o clean is =
    record {
      why = Numbers y;
      is = ap (λ (z : Outcome). z.refusal) is;
      same = refl;
      none = ap (λ (z : Outcome). z.lines) is;
      owes = nothing (subst (Clean w) (sym (ap (λ (z : Outcome). z.left) is)) clean);
    }

module _ (v w : PortValue) (x : Solo) (clean : Clean v x) (d size : ℕ) (gpfn : Option ℕ) (y : Refusal) (r : Request) (serves : Serves v w r []) (does : Does v w (λ vs. ClaimsBy v.post d size gpfn (Err (Refused y)) vs)) where
  telling : is_telling v ≡ true
  telling = alone_telling v clean.stands.alone

  made : Made v w (λ vs. ClaimsBy v.post d size gpfn (Err (Refused y)) vs)
  made = does_made v w (λ vs. ClaimsBy v.post d size gpfn (Err (Refused y)) vs) telling does

  refs_same : (g : ℕ) → told_word w (Refs g) ≡ told_word v (Refs g)
  refs_same g = made_away v w _ (Refs g) made (refused_away (Refs g) (λ p aside e. subst IsAside e aside) (λ e is. absurd cc) v.post d size gpfn y)

  kind_same : (g : ℕ) → told_word w (Kind g) ≡ told_word v (Kind g)
  kind_same g = made_away v w _ (Kind g) made (refused_away (Kind g) (λ p aside e. subst IsAside e aside) (λ e is. absurd cc) v.post d size gpfn y)

  cell_same : (g i : ℕ) → told_word w (Cell g i) ≡ told_word v (Cell g i)
  cell_same g i = made_away v w _ (Cell g i) made (refused_away (Cell g i) (λ p aside e. subst IsAside e aside) (λ e is. absurd cc) v.post d size gpfn y)

  map_same : (g : ℕ) → told_word w (M2p g) ≡ told_word v (M2p g)
  map_same g = made_away v w _ (M2p g) made (refused_away (M2p g) (λ p aside e. subst IsAside e aside) (λ e is. absurd cc) v.post d size gpfn y)

  old_same : (o : OldWord) → told_word w (old_place v.post.vcpu o) ≡ told_word v (old_place v.post.vcpu o)
  old_same o = made_away v w _ (old_place v.post.vcpu o) made (refused_away (old_place v.post.vcpu o) (old_aside o v.post.vcpu) (λ e is. absurd cc) v.post d size gpfn y)

  pub refused_clean : AloneStays → IsEmptyHand w.holdings → r.destroys ≡ None → r.grants ≡ None → Clean w x
  refused_clean stays empty spares grants =
      clean_behind v w x clean stays (does_came v w _ does) empty r [] serves spares grants nothing_set old_same x.frames x.maps (λ g low. clean.stands.others.maps g low ∙ sym (map_same g)) clean.stands.unkept
      (record {
        shares = λ g low. clean.frames.shares g low ∙ ap share_of (sym (refs_same g));
        kinds = λ g low. clean.frames.kinds g low ∙ ap (λ z. sober (kind_fields z)) (sym (kind_same g));
        cells = λ g i low few. clean.frames.cells g i low few ∙ sym (cell_same g i);
      })

-- ---- why a claim stops
module _ (v w : PortValue) (x : Solo) (clean : Clean v x) (size call k : ℕ) (gpfn : Option ℕ) (some : 0 < size) (goes : ClockGoesOn v w) where
  abbrev dom : ℕ
  dom = domain_of v.post.machine v.post.vcpu

  pub claim_refused : (r : Request) (y : Refusal) → Stops v w r (Refused y) → ClaimsPlainly v.post.machine (told_word v) dom size (Err (Refused y)) → Clean w x → IsRefusedSo w y (claim (whose v) size call k gpfn x)
  claim_refused r (refusals.DomainFull q) stops plain after = refused_so v w x (refusals.DomainFull q) _ after (claims_full v x clean size call k gpfn some plain.1 ∙ ap (λ c. stopped (Numbers (refusals.DomainFull c)) x) (sym plain.0))
  claim_refused r refusals.NoFree stops plain after = refused_so v w x refusals.NoFree _ after (claims_none v x clean size call k gpfn some plain.0 plain.1)
  claim_refused r (refusals.Clock z) stops plain after = absurd (clock_by v w v w r z goes (came_self v) (came_self w) stops)
  claim_refused r _ stops plain after = absurd plain

  pub claim_never_pauses : (r : Request) (z : Pause) → Stops v w r (Paused z) → ClaimsPlainly v.post.machine (told_word v) dom size (Err (Paused z)) → ⊥
  claim_never_pauses r (pauses.Flush u stamp found) stops plain = never_waits v w r u stamp found clean.stands.only stops
  claim_never_pauses r _ stops plain = plain
