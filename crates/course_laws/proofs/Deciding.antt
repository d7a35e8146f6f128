-- Whole acquisitions, from words at rest: what the last call comes to tells whether the tree was lawful.
use Rattle.std.proofs.Common.{◌≡◌, ℕ, ◌≤◌, Bool, true, List, None, Result, Ok, Err, refl}
use Rattle.xp_words.specs.Machine.{IsMachine, Machine}
use Rattle.xp_words.specs.declared.reply.Refusal.{Refusal}
use Rattle.xp_words.specs.declared.reply.Refusal.TheVariants as refusals
use Rattle.xp_words.specs.declared.reply.Stop.{Stop}
use Rattle.xp_words.specs.declared.reply.Stop.TheVariants.{Refused, Paused}
use Rattle.xp_board.specs.Lawful.{Lawful}
use Rattle.xp_board.specs.Told.{PortValue, is_telling, told_word}
use Rattle.partial_state.specs.Levels.{level_type}
use Rattle.table_law.specs.Alone.{PlainOutcome, alone}
use Rattle.table_law.specs.Lawful.{IsAtRest}
use Rattle.table_law.specs.Plain.{plain_of}
use Rattle.table_law.proofs.Lawfully.{fine_by_rest}
use Rattle.table_law.proofs.OnWords.{lawful_plain, lawful_words, rested_plain}
use Rattle.table_entries.specs.Acquiring.{Acquired}
use Rattle.course_laws.specs.Courses.{IsDecided, IsFinal, IsHad, IsOrderly}
use Rattle.course_laws.proofs.Beginning.{first_call}
use Rattle.course_laws.proofs.Calling.{CallOutcome, IsDone, RefusedCall, refuses_of}
use Rattle.course_laws.proofs.Refusing.{IsForWords}
use Rattle.course_laws.proofs.Stacking.{Refuses}
use Rattle.course_laws.proofs.Starting.{described}

-- the acquisition alone is fine, or is refused, too; from v on, where the last call begins
abbrev pub LastOutcome : Machine → ℕ → PortValue → PortValue → ℕ → ℕ → PlainOutcome → Result ℕ Stop → Type 0
LastOutcome n owner v w f level a (Ok g) = IsDone n w a
LastOutcome n owner v w f level a (Err (Refused y)) = IsFinal (Refused y) → RefusedCall n owner v w f level y (record { outcome = a; whole = true })
LastOutcome n owner v w f level a (Err (Paused x)) = Unit {0}

final_words : (y : Refusal) → IsFinal (Refused y) → IsForWords true y
final_words (refusals.CountFull f w) final = refl
final_words (refusals.Clock x) final = final
final_words _ final = tt

-- of a first call
pub first_last : (n : Machine) (owner : ℕ) (v w : PortValue) (f level : ℕ) (a : PlainOutcome) (answer : Result ℕ Stop) → CallOutcome n owner v w f level (record { outcome = a; whole = true }) answer → LastOutcome n owner v w f level a answer
first_last n owner v w f level a (Ok g) o = o
first_last n owner v w f level a (Err (Refused y)) o = λ final. o (final_words y final)
first_last n owner v w f level a (Err (Paused x)) o = tt

-- a refusal that is final
abbrev pub RefusesAs : PlainOutcome → Stop → Type 0
RefusesAs a (Refused y) = Refuses y a
RefusesAs a (Paused x) = Unit {0}

pub last_refuses : (n : Machine) (owner : ℕ) (v w : PortValue) (f level : ℕ) (a : PlainOutcome) (e : Stop) → LastOutcome n owner v w f level a (Err e) → IsFinal e → RefusesAs a e
last_refuses n owner v w f level a (Refused y) o final = refuses_of (o final)
last_refuses n owner v w f level a (Paused x) o final = tt

never_fine : (a : PlainOutcome) (e : Stop) → IsFinal e → RefusesAs a e → a.refusal ≡ None → ⊥
never_fine a (Refused y) final r none = let is = r.is in cc
never_fine a (Paused x) final r none = final

module _ (v : PortValue) (f owner level : ℕ) (machine : IsMachine v.post.machine) (telling : is_telling v ≡ true) (calm : IsAtRest v.post.machine (told_word v)) (orderly : IsOrderly v.post.machine (told_word v)) (low : 1 ≤ level) (high : level ≤ 4) where
  had_by : (n : Machine) (u w : PortValue) (a : PlainOutcome) (answer : Result ℕ Stop) → IsDecided answer → LastOutcome n owner u w f level a answer → (a.refusal ≡ None → IsHad answer) × (IsHad answer → a.refusal ≡ None)
  had_by n u w a (Ok g) decided o = (λ none. tt, λ had. o.none)
  had_by n u w a (Err e) decided o = (λ none. absurd (never_fine a e decided (last_refuses n owner u w f level a e o decided) none), λ had. absurd had)

  -- the answer tells whether the tree was lawful
  pub last_lawful : (u w : PortValue) (answer : Result ℕ Stop) → IsDecided answer → LastOutcome v.post.machine owner u w f level (alone v.post.machine owner level f (plain_of (told_word v))) answer →
      (Lawful v.post.machine owner (told_word v) f (level_type level) → IsHad answer) × (IsHad answer → Lawful v.post.machine owner (told_word v) f (level_type level))
  last_lawful u w answer decided o =
      let n = v.post.machine in
      let p = plain_of (told_word v) in
      let d = described n (told_word v) in
      let law = fine_by_rest n owner level f p high (rested_plain n (told_word v) p d calm) in
      let had = had_by n u w (alone n owner level f p) answer decided o in
      (λ is. had.0 (law.0 (lawful_plain n owner f (level_type level) (told_word v) p d is)), λ is. lawful_words n owner f (level_type level) (told_word v) p d (law.1 (had.1 is)))

  pub one_call : (w : PortValue) (answers : List Bool) (answer : Result ℕ Stop) → Acquired v f owner level w answers answer → LastOutcome v.post.machine owner v w f level (alone v.post.machine owner level f (plain_of (told_word v))) answer
  one_call w answers answer acquired =
      first_last v.post.machine owner v w f level (alone v.post.machine owner level f (plain_of (told_word v))) answer (first_call v f owner level machine telling calm orderly low high w answers answer acquired)

  pub had_where_lawful : (w : PortValue) (answers : List Bool) (answer : Result ℕ Stop) → Acquired v f owner level w answers answer → IsDecided answer →
      (Lawful v.post.machine owner (told_word v) f (level_type level) → IsHad answer) × (IsHad answer → Lawful v.post.machine owner (told_word v) f (level_type level))
  had_where_lawful w answers answer acquired decided = last_lawful v w answer decided (one_call w answers answer acquired)
