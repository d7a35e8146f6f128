-- Whose tables and frames a list is about: as the plain value has it.
use Rattle.std.proofs.Common.{◌≡◌, ℕ, ◌<◌, ◌^◌, ◌==◌, nat_lt, [], Option, Some, None, Result, Ok, Err, refl, sym, ap, ◌∙◌, subst, inl, inr, length, arith}
use Rattle.std.proofs.lemmas.Bool.{cases_Bool}
use Rattle.std.proofs.lemmas.Bool.Decides.{nat_tests}
use Rattle.xp_words.specs.Machine.{Machine}
use Rattle.xp_words.specs.declared.reply.Refusal.{Refusal}
use Rattle.xp_board.specs.declared.holdings.Holdings.{Holdings}
use Rattle.xp_board.specs.Hands.{IsEmptyHand}
use Rattle.xp_board.proofs.PlaceTests.{equal_by}
use Rattle.xp_board.specs.Told.{PortValue, told_word}
use Rattle.step_maker.specs.Plain.{Words}
use Rattle.step_maker.proofs.Alikes.{same_alike}
use Rattle.foreign_map.specs.Owning.{admit, allow, frames_of, or_then, owners_answer, refuse_owners, tables_of}
use Rattle.foreign_map.specs.declared.owners.Owners.{Owners}
use Rattle.answer_laws.proofs.Shared.{alone_telling}
use Rattle.script_law.specs.Values.{Solo, of_domains}
use Rattle.solo_ports.specs.Standing.{ShowsOthers, Stands, StaysAlike}
use Rattle.vcpu_turn.specs.Pairs.{FindsOwners}
use Rattle.vcpu_turn.proofs.Hindering.{owners_came}

-- ---- the same of words and of the plain value
module _ (n : Machine) (s : ℕ) (m : Words) (x : Solo) (o : ShowsOthers n s m x) (caller : ℕ) (real : caller < length n.page_limit) where
  admits : (d : ℕ) → admit n m caller d ≡ admit n (of_domains x) caller d
  admits d = elim (cases_Bool (d == caller)) [
    | inl own ↦ rw own refl
    | inr off ↦ rw off (elim (cases_Bool (nat_lt d (length n.page_limit))) [
      | inr beyond ↦ rw beyond refl
      | inl inside ↦ (
          let low : d < length n.page_limit = grind (arith, nat_tests) in
          let p = o.privileges caller real in
          let l = o.lives d low in
          rw (inside, p, l) refl
          )
    ])
  ]

  allows : (tables frames : ℕ) → tables < length n.page_limit → allow m caller tables frames ≡ allow (of_domains x) caller tables frames
  allows tables frames low = let p = o.privileges tables low in rw p refl

  by_tables : (tables frames : ℕ) → or_then (admit n m caller tables) (or_then (admit n m caller frames) (allow m caller tables frames)) ≡ or_then (admit n (of_domains x) caller tables) (or_then (admit n (of_domains x) caller frames) (allow (of_domains x) caller tables frames))
  by_tables tables frames = elim (cases_Bool (nat_lt tables (length n.page_limit))) [
    | inl inside ↦ (
        let low : tables < length n.page_limit = grind (arith, nat_tests) in
        rw (admits tables, admits frames, allows tables frames low) refl
        )
    | inr beyond ↦ elim (cases_Bool (tables == caller)) [
      | inl own ↦ absurd (let same = equal_by tables caller own in grind (arith, nat_tests))
      | inr off ↦ rw (off, beyond) refl
    ]
  ]

  pub owners_same : (foreign : ℕ) → refuse_owners n m caller foreign ≡ refuse_owners n (of_domains x) caller foreign
  owners_same foreign = elim (cases_Bool (nat_lt foreign (2 ^ 32))) [
    | inl few ↦ rw few (by_tables (tables_of caller foreign) (frames_of caller foreign))
    | inr many ↦ rw many refl
  ]

-- ---- as they are found
-- a hand with no step made
abbrev bare : Holdings → Holdings
bare h = record h { steps = [] }

rested : (h : Holdings) → IsEmptyHand (bare h) → IsEmptyHand h
rested h e = record { refs = e.refs; typed = e.typed; works = e.works; locks = e.locks; ending = e.ending; claimed = e.claimed; raised = e.raised; credits = e.credits; looking = e.looking }

rested_still : (h : Holdings) → IsEmptyHand h → IsEmptyHand (bare h)
rested_still h e = record { refs = e.refs; typed = e.typed; works = e.works; locks = e.locks; ending = e.ending; claimed = e.claimed; raised = e.raised; credits = e.credits; looking = e.looking }

had_owners : (caller foreign : ℕ) (r : Option Refusal) (o : Owners) → ◌≡◌ {A = Result Owners Refusal} (Ok o) (owners_answer caller foreign r) → (r ≡ None) × (o ≡ record { tables = tables_of caller foreign; frames = frames_of caller foreign })
had_owners caller foreign None o is = (refl, (let same : o ≡ record { tables = tables_of caller foreign; frames = frames_of caller foreign } = cc in same))
had_owners caller foreign (Some x) o is = absurd cc

no_owners : (caller foreign : ℕ) (r : Option Refusal) (x : Refusal) → ◌≡◌ {A = Result Owners Refusal} (Err x) (owners_answer caller foreign r) → r ≡ Some x
no_owners caller foreign None x is = absurd cc
no_owners caller foreign (Some y) x is = let same : y ≡ x = cc in ap Some same

module _ (v w : PortValue) (x : Solo) (s : Stands v x) (d foreign : ℕ) (real : d < length v.post.machine.page_limit) where
  pub found_had : (o : Owners) → FindsOwners v w d foreign (Ok o) → (refuse_owners v.post.machine (of_domains x) d foreign ≡ None) × (o ≡ record { tables = tables_of d foreign; frames = frames_of d foreign })
  found_had o f =
      let k = had_owners d foreign (refuse_owners v.post.machine (told_word v) d foreign) o (f.plain (alone_telling v s.alone)).0 in
      (sym (owners_same v.post.machine v.post.vcpu (told_word v) x s.others d real foreign) ∙ k.0, k.1)

  pub found_none : (r : Refusal) → FindsOwners v w d foreign (Err r) → refuse_owners v.post.machine (of_domains x) d foreign ≡ Some r
  found_none r f = sym (owners_same v.post.machine v.post.vcpu (told_word v) x s.others d real foreign) ∙ no_owners d foreign (refuse_owners v.post.machine (told_word v) d foreign) r (f.plain (alone_telling v s.alone)).0

  -- and nothing is changed by that
  pub owners_alike : (answer : Result Owners Refusal) → FindsOwners v w d foreign answer → StaysAlike v w
  owners_alike answer f =
      record {
        came = owners_came v w d foreign answer f;
        words = same_alike (told_word w) (told_word v) (f.plain (alone_telling v s.alone)).1;
        empty = rested w.holdings (subst IsEmptyHand (sym (ap (λ (y : PortValue). y.holdings) f.hand)) (rested_still v.holdings s.empty));
      }
