-- What reads and writes of a guest come to.
use Rattle.std.specs.Prelude.{◌≡◌, ℕ, [], Some, None, Result, Ok, Err}
use Rattle.xp_words.specs.declared.reply.Refusal.{Refusal}
use Rattle.xp_words.specs.declared.reply.Stop.{Stop}
use Rattle.xp_words.specs.declared.reply.Stop.TheVariants.{Refused, Paused}
use Rattle.xp_board.specs.Told.{PortValue}
use Rattle.script_law.specs.Values.{Numbers, Outcome}
use Rattle.solo_ports.specs.Standing.{Clean}

-- refused with that very refusal, as o is, and o's words are left
pub record IsRefusedExactly (w : PortValue) (r : Refusal) (o : Outcome) : Type 0 where
  pub is : o.refusal ≡ Some (Numbers r)
  pub none : o.lines ≡ []
  pub clean : Clean w o.left

-- done, as o is, with that value
pub record IsAnswered (w : PortValue) (value : ℕ) (o : Outcome) : Type 0 where
  pub fine : o.refusal ≡ None
  pub value_is : o.value ≡ value
  pub none : o.lines ≡ []
  pub clean : Clean w o.left

-- It is never paused. A read answers the word, and a write 0.
abbrev pub AccessComes : PortValue → Outcome → Result ℕ Stop → Type 0
AccessComes w o (Ok value) = IsAnswered w value o
AccessComes w o (Err (Refused r)) = IsRefusedExactly w r o
AccessComes w o (Err (Paused p)) = ⊥

-- the answer of a write as that of a read which finds 0
abbrev pub with_zero : Result (Unit {0}) Stop → Result ℕ Stop
with_zero (Ok done) = Ok 0
with_zero (Err e) = Err e
