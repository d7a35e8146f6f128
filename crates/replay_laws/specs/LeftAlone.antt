-- The words that a call leaves as they are, by what it is asked and by what a guest sees of it.
use Rattle.std.specs.Prelude.{◌≡◌, ◌≢◌, ◌/◌, ℕ, false, List, Some, None, IsTrue}
use Rattle.xp_words.specs.Machine.{Machine}
use Rattle.xp_words.specs.declared.place.Place.{Place}
use Rattle.xp_words.specs.declared.place.Place.TheVariants.{Cell, Kind, Life, M2p, Map, Pages, Priv, Refs, Vcpu}
use Rattle.xp_board.specs.Lists.{Member}
use Rattle.xp_board.specs.Readings.{domain_of}
use Rattle.step_maker.specs.Answers.{Deed, SetsWord, is_told_word}
use Rattle.step_maker.specs.Asked.{Request}

-- It asks nothing of the frame: it does not name it, nor give it back; and no word that it finds asks a frame.
pub record IsUnasked (r : Request) (f : ℕ) : Type 0 where
  pub names : r.names f ≡ false
  pub backs : r.backs f ≡ false
  pub entries : r.entries ≡ false
  pub contexts : r.contexts ≡ false
  pub walks : r.walks ≡ false
  pub destroys : r.destroys ≡ None

-- Vcpu s, asked r, of whose steps a guest sees these deeds, leaves the word at that place as it is.
pub data IsLeftAlone (n : Machine) (s : ℕ) (r : Request) (ds : List Deed) : Place → Type 0 where
  -- the life of a domain that it does not destroy, and the privileges of one to which it gives none and takes none from
  life : (d : ℕ) → r.destroys ≢ Some d → IsLeftAlone n s r ds (Life d)
  privilege : (d : ℕ) → r.grants ≢ Some d → IsLeftAlone n s r ds (Priv d)
  -- a word of another vCPU, of a domain that it does not destroy, but for what that one is asked to flush
  other : (v k : ℕ) → v ≢ s → k ≢ 4 → r.destroys ≢ Some (domain_of n v) → IsLeftAlone n s r ds (Vcpu v k)
  -- a word of any vCPU that names a frame or the LDT, but the two old ones, where no deed sets it
  word : (v k : ℕ) → IsTrue (is_told_word k) → ((w : ℕ) → Member (SetsWord v k w) ds → ⊥) → IsLeftAlone n s r ds (Vcpu v k)
  -- the words and cells of a frame of which nothing is asked
  refs : (f : ℕ) → IsUnasked r f → IsLeftAlone n s r ds (Refs f)
  kind : (f : ℕ) → IsUnasked r f → IsLeftAlone n s r ds (Kind f)
  m2p : (f : ℕ) → IsUnasked r f → IsLeftAlone n s r ds (M2p f)
  cell : (f i : ℕ) → IsUnasked r f → IsLeftAlone n s r ds (Cell f i)
  -- the map of free frames, where nothing is asked of the 64 frames of that word; and pages, where no frame is asked, and none is taken
  map : (k : ℕ) → ((f : ℕ) → k ≡ f / 64 → IsUnasked r f) → IsLeftAlone n s r ds (Map k)
  pages : (d : ℕ) → r.pages ≡ None → ((f : ℕ) → IsUnasked r f) → IsLeftAlone n s r ds (Pages d)
