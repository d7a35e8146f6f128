-- The words of frames as one vCPU alone would know them: owners, counts, types and cells, with the marks of awaited flushes. Stamps are left out.
use Rattle.std.specs.Prelude.{◌≡◌, ℕ, ◌+◌, ◌-◌, ◌<◌, ◌==◌, if◌then◌else◌, Bool, Option, Some, None}
use Rattle.xp_words.specs.declared.kind.KindWord.{KindWord}
use Rattle.xp_words.specs.declared.refs.RefWord.{RefWord}
use Rattle.xp_words.specs.declared.refs.RefWord.TheVariants.{Owned}
use Rattle.xp_words.specs.RefWords.{ref_read}
use Rattle.xp_words.specs.Machine.{Machine}
use Rattle.xp_words.specs.declared.place.Place.TheVariants.{Refs, Cell}
use Rattle.xp_board.specs.Readings.{kind_at}
use Rattle.step_maker.specs.Plain.{Words}

-- an owned frame: of which domain, and its count
pub record Share : Type 0 where
  pub owner : ℕ
  pub allocated : Bool
  pub count : ℕ

-- None: nobody's, or dying, so without a reference
abbrev pub share_in : Option RefWord → Option Share
share_in (Some (Owned owner allocated count)) = Some (record { owner = owner; allocated = allocated; count = count })
share_in _ = None

abbrev pub share_of : ℕ → Option Share
share_of w = share_in (ref_read w)

-- the fields of a kind word without its stamp
abbrev pub sober : KindWord → KindWord
sober k = if k.validated then k else record k { number = 0 }

pub record Plain : Type 0 where
  pub shares : ℕ → Option Share
  pub kinds : ℕ → KindWord
  pub cells : ℕ → ℕ → ℕ

-- the words m of a machine are these
pub record Describes (n : Machine) (m : Words) (p : Plain) : Type 0 where
  pub shares : (g : ℕ) → g < n.frames → p.shares g ≡ share_of (m (Refs g))
  pub kinds : (g : ℕ) → g < n.frames → p.kinds g ≡ sober (kind_at m g)
  pub cells : (g i : ℕ) → g < n.frames → i < 512 → p.cells g i ≡ m (Cell g i)

-- what any words come to
abbrev pub plain_of : Words → Plain
plain_of m = record { shares = λ g. share_of (m (Refs g)); kinds = λ g. sober (kind_at m g); cells = λ g i. m (Cell g i) }

-- ---- changes
abbrev pub at : {A : Type 0} → ℕ → A → (ℕ → A) → ℕ → A
at f x old g = if g == f then x else old g

abbrev pub with_share : ℕ → Share → Plain → Plain
with_share f s p = record { shares = at f (Some s) p.shares; kinds = p.kinds; cells = p.cells }

abbrev pub with_kind : ℕ → KindWord → Plain → Plain
with_kind f k p = record { shares = p.shares; kinds = at f k p.kinds; cells = p.cells }

abbrev pub raised_share : Share → Share
raised_share s = record { owner = s.owner; allocated = s.allocated; count = s.count + 1 }

-- one reference less; the last one frees the frame
abbrev pub fewer : Option Share → Option Share
fewer None = None
fewer (Some s) = if s.count == 1 then None else Some (record { owner = s.owner; allocated = s.allocated; count = s.count - 1 })

-- a reference to frame g is given back
abbrev pub reference_back : ℕ → Plain → Plain
reference_back g p = record { shares = at g (fewer (p.shares g)) p.shares; kinds = p.kinds; cells = p.cells }
