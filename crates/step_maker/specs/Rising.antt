-- A request that asks all that another one asks: flags rise, options become more, the owners stay.
use Rattle.std.specs.Prelude.{◌≡◌, ◌⊎◌, ℕ, Bool, true, false, Option, Some, None, IsTrue}
use Rattle.step_maker.specs.Asked.{Request}

-- computed where the first is written out: nothing to show where it is false, or None
abbrev pub Rises : Bool → Bool → Type 0
Rises true b = b ≡ true
Rises false b = Unit {0}

abbrev pub Stays : {A : Type 0} → Option A → Option A → Type 0
Stays (Some x) b = b ≡ Some x
Stays None b = Unit {0}

abbrev pub OnlyWhere : Bool → Type 0 → Type 0
OnlyWhere true A = A
OnlyWhere false A = Unit {0}

-- what it may do, beside the frames that it names and gives back
pub record Grows (r q : Request) : Type 0 where
  pub returns : Rises r.returns q.returns
  pub by_numbers : Stays r.by_numbers q.by_numbers
  pub index : Stays r.index q.index
  pub new_word : Stays r.new_word q.new_word
  pub entries : Rises r.entries q.entries
  pub contexts : Rises r.contexts q.contexts
  pub locks : Rises r.locks q.locks
  pub walks : Rises r.walks q.walks
  pub stores : Rises r.stores q.stores
  pub flushes : Rises r.flushes q.flushes
  pub waits : Stays r.waits q.waits
  pub destroys : Stays r.destroys q.destroys
  pub grants : Stays r.grants q.grants
  pub pages : Stays r.pages q.pages
  pub block : Stays r.block q.block
  pub rose : Rises r.rose q.rose
  pub pins : Rises r.pins q.pins
  pub alone : Rises r.alone q.alone
  pub ldt_page : Stays r.ldt_page q.ldt_page
  pub descriptor : Stays r.descriptor q.descriptor
  -- a walk wants the same of what it finds
  pub want : OnlyWhere r.walks (r.want ≡ q.want)
  pub over : (d : ℕ) → IsTrue (r.over d) → IsTrue (q.over d)

-- whose the frames are
pub record IsOfSame (r q : Request) : Type 0 where
  pub owner : r.owner ≡ q.owner
  pub pages_of : r.pages_of ≡ q.pages_of

-- it has a part that looks at whose frames they are
abbrev pub NeedsOwners : Request → Type 0
NeedsOwners r = (r.entries ≡ true) ⊎ ((r.walks ≡ true) ⊎ ((r.alone ≡ true) ⊎ ((d : ℕ) × IsTrue (r.over d))))
