-- Two courses from one port: they fork, or they come to one port, with one answer.
use Rattle.std.specs.Prelude.{◌≡◌, ◌⊎◌, List}
use Rattle.xp_board.specs.Told.{PortValue}
use Rattle.step_maker.specs.Visits.{Visit}
use Rattle.determined_laws.specs.Forks.{Forks, MadeBy}

-- from v to w and from v to x by lists of steps that are the same up to a step which both made, and at which they found different words
pub record Forked (v w x : PortValue) : Type 0 where
  pub us : List Visit
  pub vs : List Visit
  pub left : MadeBy v w us
  pub right : MadeBy v x vs
  pub forks : Forks us vs

-- they fork; or they end in the same port (as it holds, and as its board tells), and E is so of their answers
abbrev pub Alike : PortValue → PortValue → PortValue → Type 0 → Type 0
Alike v w x E = Forked v w x ⊎ ((w ≡ x) × E)
