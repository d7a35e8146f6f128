-- Refusals and words, and what the plain value of the frames has for them.
use Rattle.std.specs.Prelude.{◌≡◌, Option, Some, None}
use Rattle.xp_words.specs.KindWords.{kind_fields}
use Rattle.xp_words.specs.declared.reply.Refusal.{Refusal}
use Rattle.xp_words.specs.declared.reply.Refusal.TheVariants as refusals
use Rattle.table_law.specs.Alone.{Cause, NoFrame, WrongOwner, CountFull, OtherType, Reserved}
use Rattle.table_law.specs.Plain.{share_of, sober}

-- a refusal, and the same cause on the plain value: with the word that it carries as that value has it
abbrev pub IsCause : Refusal → Cause → Type 0
IsCause (refusals.NoFrame f) (NoFrame g) = f ≡ g
IsCause (refusals.WrongOwner f w) (WrongOwner g found) = (f ≡ g) × (share_of w ≡ found)
IsCause (refusals.CountFull f w) (CountFull g found) = (f ≡ g) × (share_of w ≡ Some found)
IsCause (refusals.OtherType f want w) (OtherType g t found) = (f ≡ g) × (want ≡ t) × (sober (kind_fields w) ≡ found)
IsCause (refusals.Reserved f i w) (Reserved g j entry) = (f ≡ g) × (i ≡ j) × (w ≡ entry)
IsCause _ _ = ⊥

-- both are fine, or both are refused for one cause
abbrev pub IsSameAnswer : Option Refusal → Option Cause → Type 0
IsSameAnswer None None = Unit {0}
IsSameAnswer (Some x) (Some c) = IsCause x c
IsSameAnswer _ _ = ⊥
