-- Elements that begin behind a call that settles.
use Rattle.std.proofs.Common.{◌≡◌, ◌⊎◌, Bool, List, None, Result, Ok, Err, refl, sym, subst, inl, inr}
use Rattle.xp_words.specs.declared.reply.Stop.{Stop}
use Rattle.xp_board.specs.Told.{PortValue, told_word}
use Rattle.step_maker.specs.Holds.{Rests}
use Rattle.step_maker.specs.Moves.{Came}
use Rattle.step_maker.proofs.Coming.{came_trans}
use Rattle.table_words.specs.OldWords.{old_place}
use Rattle.table_words.specs.declared.old_words.OldWord.TheVariants.{First}
use Rattle.table_law.specs.Plain.{Describes, plain_of}
use Rattle.course_laws.proofs.Awaiting.{AloneStays, NeitherLostNorBusy}
use Rattle.script_law.specs.Values.{Outcome, Solo}
use Rattle.solo_ports.specs.Coming.{Comes}
use Rattle.solo_ports.specs.Standing.{Clean, IsSettled, Owes, Stands, StaysAlike}
use Rattle.vcpu_turn.specs.Settling.{Settles, SettlesFirst}
use Rattle.vcpu_turn.specs.Settling as settling
use Rattle.vcpu_turn.proofs.Hindering.{settles_came}
use Rattle.script_laws.proofs.Premises.{FairFrom}
use Rattle.script_laws.proofs.Settling.{due_by, ended_ok, known_settled, same_settled, settles_clean, settles_owes, stands_in}
use Rattle.script_laws.proofs.Knowing.{IsKnown}

pub described : (v : PortValue) → Describes v.post.machine (told_word v) (plain_of (told_word v))
described v = record { shares = λ g inside. refl; kinds = λ g inside. refl; cells = λ g i inside low. refl }

-- `Good`: what else holds of a plain value between elements, by the words of domains in it
module _ (stays : AloneStays) (neither : NeitherLostNorBusy) (v0 : PortValue) (Good : Solo → Type 0) where
  -- ---- the relation
  -- where the script stands: behind the first port
  pub record IsAhead (v : PortValue) (s : Solo) : Type 0 where
    pub came : Came v0 v
    pub good : Good s

  pub record OwesF (v : PortValue) (s : Solo) : Type 0 where
    pub ahead : IsAhead v s
    pub owes : Owes v s

  -- ---- what is kept of an element that was paused
  abbrev pub Relation : Type 1
  Relation = PortValue → Solo → Type 0

  -- it stands, with nothing to be settled; and goes along steps that change nothing of it
  pub record IsKeeping (Kept : Relation) : Type 0 where
    pub stands : (v : PortValue) (s : Solo) → Kept v s → Stands v s
    pub first : (v : PortValue) (s : Solo) → Kept v s → told_word v (old_place v.post.vcpu First) ≡ 0
    pub goes_on : (v w : PortValue) (s : Solo) → StaysAlike v w → Kept v s → Kept w s

  pub none_kept : IsKeeping (λ v s. ⊥)
  none_kept = record { stands = λ v s k. absurd k; first = λ v s k. absurd k; goes_on = λ v w s on k. k }

  -- what an element's law says, behind what is settled
  abbrev pub LawOf : (PortValue → PortValue → List Bool → Result (Unit {0}) Stop → Type 0) → Relation → (Solo → Outcome) → Type 0
  LawOf P Kept plain = (v w : PortValue) (s : Solo) (answers : List Bool) (answer : Result (Unit {0}) Stop) → IsAhead v s → Clean v s ⊎ Kept v s → IsSettled v → Rests v → FairFrom v0 w → P v w answers answer → Comes Kept w s (plain s) answer × IsKnown (plain s) answer

  module _ (P : PortValue → PortValue → List Bool → Result (Unit {0}) Stop → Type 0) (Kept : Relation) (plain : Solo → Outcome) (keeping : IsKeeping Kept) (law : LawOf P Kept plain) where
    -- ---- with what is settled in front of it
    settled_first : (v u : PortValue) (s : Solo) (answers : List Bool) → Owes v s ⊎ Kept v s → Settles None v u answers (Ok tt) → Clean u s ⊎ Kept u s
    settled_first v u s answers (inl owes) settles = inl (settles_clean stays neither v u s None answers owes settles)
    settled_first v u s answers (inr kept) settles = inr (keeping.goes_on v u s (same_settled stays neither v u s None answers (keeping.stands v s kept) (keeping.first v s kept) settles) kept)

    unsettled_by : (v w : PortValue) (s : Solo) (answers : List Bool) (e : Stop) → Owes v s ⊎ Kept v s → Settles None v w answers (Err e) → Comes Kept w s (plain s) (Err e) × IsKnown {A = Unit {0}} (plain s) (Err e)
    unsettled_by v w s answers e (inl owes) settles =
        subst (λ k. Comes Kept w s (plain s) (Err k) × IsKnown {A = Unit {0}} (plain s) (Err k)) (sym (due_by stays neither v w s None answers e (stands_in stays neither v s owes) settles)) (inl (settles_owes stays neither v w s None answers e owes settles), tt)
    unsettled_by v w s answers e (inr kept) settles =
        absurd (let k = ended_ok stays neither v w s None answers (Err e) (keeping.stands v s kept) (keeping.first v s kept) settles (plain_of (told_word v)) (described v) in cc)

    pub first_comes : (v w : PortValue) (s : Solo) (answers : List Bool) (answer : Result (Unit {0}) Stop) → IsAhead v s → Owes v s ⊎ Kept v s → FairFrom v0 w → SettlesFirst P v w answers answer → Comes Kept w s (plain s) answer × IsKnown (plain s) answer
    first_comes v _ s _ _ ahead pending fair (settling.SettlesFirst.unsettled w answers stop settles) = unsettled_by v w s answers stop pending settles
    first_comes v _ s _ _ ahead pending fair (settling.SettlesFirst.performed u w early answers answer settles does) =
        law u w s answers answer (record { came = came_trans v0 v u ahead.came (settles_came v u early (Ok tt) settles); good = ahead.good }) (settled_first v u s early pending settles) (known_settled stays neither v u None early settles) settles.rests fair does
