-- The plain exchange leaves no frame with the kept mark that had none.
use Rattle.std.proofs.Common.{◌≡◌, ℕ, inl, inr, ◌-◌, ◌==◌, if◌then◌else◌, Bool, true, false, Option, Some, None, refl, ap, subst, arith, ◌∙◌, sym}
use Rattle.std.proofs.lemmas.Bool.{cases_Bool}
use Rattle.std.proofs.lemmas.Bool.Decides.{nat_tests}
use Rattle.xp_words.specs.Machine.{Machine}
use Rattle.xp_words.specs.declared.entry.Demand.{Demand}
use Rattle.xp_words.specs.declared.entry.Demand.TheVariants as demands
use Rattle.xp_words.specs.declared.kind.KindWord.{KindWord}
use Rattle.kind_words.specs.Kinds.{partial_kind}
use Rattle.partial_state.specs.Levels.{level_type}
use Rattle.table_law.specs.Alone.{Cause, PlainOutcome, back_or, fine, meet, take_at}
use Rattle.table_law.specs.Exchange.{EntryPlace, exchange_by, exchange_for, exchanged, put_on, unlocked_plain, with_cell}
use Rattle.table_law.specs.Levels.{entry_of}
use Rattle.table_law.specs.Plain.{Plain}
use Rattle.table_law.specs.Release.{drop_demand, let_go}
use Rattle.xp_words.specs.Entries.{demand_at}
use Rattle.xp_board.specs.CellSteps.{is_same_demand}
use Rattle.solo_ports.specs.Standing.{IsUnkept}
use Rattle.solo_ports.proofs.Unkept.{Un, by_alone, by_kind, by_let_go, by_reference}

module _ (g : ℕ) where
  own_word : (f : ℕ) (p : Plain) → Un g p → (b : Bool) → (g == f) ≡ b → (k : KindWord) → k.kept ≡ (p.kinds f).kept → (if b then k else p.kinds g).kept ≡ false
  own_word f p e true is k same = let i : g ≡ f = grind (arith, nat_tests) in subst (λ (c : Bool). c ≡ false) (ap (λ h. (p.kinds h).kept) i ∙ sym same) e
  own_word f p e false is k same = e

  by_unlock : (level f : ℕ) (p : Plain) → Un g p → Un g (unlocked_plain level f p)
  by_unlock level f p e = elim (cases_Bool ((p.kinds f).number == 1)) [
    | inl one ↦ rw one (by_kind g f (partial_kind (level_type level) false false 512 0) p refl e)
    | inr more ↦ rw more (own_word f p e (g == f) refl (record (p.kinds f) { number = (p.kinds f).number - 1; locked = false }) refl)
  ]

  by_drop : (l : ℕ) (p : Plain) (d : Demand) → Un g p → Un g (drop_demand (let_go l) p d)
  by_drop l p demands.Nothing e = e
  by_drop l p demands.Bad e = e
  by_drop l p (demands.Read h) e = e
  by_drop l p (demands.Typed h t) e = by_let_go g l h p e

  by_meet : (n : Machine) (owner l f i : ℕ) (p : Plain) (d : Demand) → Un g p → Un g (meet n owner (take_at l n owner) f i p d).left
  by_meet n owner l f i p demands.Nothing e = e
  by_meet n owner l f i p demands.Bad e = e
  by_meet n owner l f i p (demands.Read h) e = by_reference g n owner h p e
  by_meet n owner l f i p (demands.Typed h t) e = by_alone g n owner l h p e

  by_back : (r : Option Cause) (p : Plain) (back : Plain → Plain) (next : Plain → PlainOutcome) → Un g p → ((q : Plain) → Un g q → Un g (back q)) → ((q : Plain) → Un g q → Un g (next q).left) → Un g (back_or r p back next).left
  by_back None p back next e backs goes = goes p e
  by_back (Some c) p back next e backs goes = backs p e

  by_exchange_for : (n : Machine) (owner : ℕ) (x : EntryPlace) (new : ℕ) (old : Demand) (p : Plain) (d : Demand) (b : Bool) → Un g p → Un g (exchange_for n owner x new old p d b).left
  by_exchange_for n owner x new old p d true e = by_unlock x.level x.table (with_cell x.table x.index new p) e
  by_exchange_for n owner x new old p d false e =
      let a = meet n owner (take_at (x.level - 1) n owner) x.table x.index p d in
      by_back a.refusal a.left (unlocked_plain x.level x.table) (λ q. fine (put_on x new old q)) (by_meet n owner (x.level - 1) x.table x.index p d e) (λ q h. by_unlock x.level x.table q h)
      (λ q h. by_drop (x.level - 1) (unlocked_plain x.level x.table (with_cell x.table x.index new q)) old (by_unlock x.level x.table (with_cell x.table x.index new q) h))

  by_exchange : (n : Machine) (owner : ℕ) (x : EntryPlace) (new : ℕ) (old : Demand) (p : Plain) (d : Demand) → Un g p → Un g (exchange_by n owner x new old p d).left
  by_exchange n owner x new old p demands.Bad e = by_unlock x.level x.table p e
  by_exchange n owner x new old p demands.Nothing e = by_exchange_for n owner x new old p demands.Nothing (is_same_demand old demands.Nothing) e
  by_exchange n owner x new old p (demands.Read h) e = by_exchange_for n owner x new old p (demands.Read h) (is_same_demand old (demands.Read h)) e
  by_exchange n owner x new old p (demands.Typed h t) e = by_exchange_for n owner x new old p (demands.Typed h t) (is_same_demand old (demands.Typed h t)) e

pub unkept_exchanged : (n : Machine) (owner : ℕ) (x : EntryPlace) (new : ℕ) (p : Plain) → IsUnkept n p → IsUnkept n (exchanged n owner x new p).left
unkept_exchanged n owner x new p e = λ g inside. by_exchange g n owner x new (entry_of p (level_type x.level) x.table x.index) p (demand_at (level_type x.level) x.index new) (e g inside)
