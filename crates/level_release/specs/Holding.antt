-- Tables that are released, one in the other, as what the vCPU holds for them. `done`: so many of a table's 512 entries are given back
-- already, or were never recorded. `own`: the table is in work, with its type count in hand; else it is closing, with an untyped
-- reference in hand.
use Rattle.std.specs.Prelude.{◌≡◌, ◌≢◌, ℕ, ◌+◌, ◌<◌, ◌≤◌, Bool, true, false, List, [], ◌∷◌, length, Option, Some, None, IsTrue, Result, Ok, Err, IfErr}
use Rattle.xp_words.specs.Entries.{demand_at}
use Rattle.xp_words.specs.KindWords.{kind_fields}
use Rattle.xp_words.specs.Places.{Sizes, sizes_of}
use Rattle.xp_words.specs.declared.entry.Demand.TheVariants.{Typed}
use Rattle.xp_words.specs.declared.kind.PageType.{PageType}
use Rattle.xp_words.specs.declared.reply.Stop.{Stop}
use Rattle.xp_board.specs.declared.holdings.Holdings.{Holdings}
use Rattle.xp_board.specs.declared.holdings.OwnerFound.{OwnerFound}
use Rattle.xp_board.specs.declared.holdings.OwnerFound.TheVariants as owners
use Rattle.xp_board.specs.declared.holdings.Reference.{Reference}
use Rattle.xp_board.specs.declared.holdings.TypedReference.{TypedReference}
use Rattle.xp_board.specs.declared.holdings.Work.{Work}
use Rattle.xp_board.specs.Knowledge.{knows_live, knows_owner}
use Rattle.xp_board.specs.Readings.{is_closing, is_work}
use Rattle.xp_board.specs.Told.{PortValue}
use Rattle.step_maker.specs.Holds.{Holds, MayWork, still}
use Rattle.partial_state.specs.Levels.{level_type}
use Rattle.partial_state.specs.Stacks.{IsStack}
use Rattle.partial_state.specs.declared.stack.TableWork.{TableWork}
use Rattle.table_releases.specs.Tops.{IsSettledTop, IsSince}
pub use Rattle.table_entries.specs.Acquiring.{outermost_frame}

-- ---- works
pub record IsReleasedWork (z : Sizes) (made : ℕ) (t : TableWork) (e : Work) : Type 0 where
  pub inside : t.frame < z.frames
  pub frame : e.frame ≡ t.frame
  pub kind : (kind_fields e.word).kind ≡ level_type t.level
  pub unmarked : (kind_fields e.word).unflushed ≡ false
  pub recorded : e.recorded + t.done ≡ 512
  pub work : t.own ≡ true → IsTrue (is_work (kind_fields e.word))
  pub closing : t.own ≡ false → IsTrue (is_closing (kind_fields e.word))
  pub earlier : e.since ≤ made

-- Around an inner table the entry that names it was shed last: it is the one that was loaded last, and can be recorded again.
pub record IsAround (t : TableWork) (e : Work) (g : TableWork) : Type 0 where
  pub settled : e.unsettled ≡ None
  pub word : ℕ
  pub seen : e.seen ≡ Some (record { index = e.recorded; word = word })
  pub asks : demand_at (level_type t.level) e.recorded word ≡ Typed g.frame (level_type g.level)
  pub inside : e.recorded < 512

abbrev pub IsAroundAny : TableWork → Work → Option TableWork → Type 0
IsAroundAny t e None = Unit {0}
IsAroundAny t e (Some g) = IsAround t e g

-- these are all frames in work or closing, the innermost first
abbrev pub AreInRelease : Sizes → ℕ → Option TableWork → List TableWork → List Work → Type 0
AreInRelease z made inner [] [] = Unit {0}
AreInRelease z made inner (t ∷ ts) (e ∷ es) = IsReleasedWork z made t e × IsAroundAny t e inner × AreInRelease z made (Some t) ts es
AreInRelease z made inner _ _ = ⊥

-- ---- references
-- an untyped one for each closing table, in front of the others
abbrev pub RefFor : Bool → ℕ → (List Reference → Type 0) → List Reference → Type 0
RefFor true f P xs = P xs
RefFor false f P xs = (r : Reference) × (rest : List Reference) × (r.frame ≡ f) × (xs ≡ r ∷ rest) × P rest

abbrev pub AreRefs : List Reference → List TableWork → List Reference → Type 0
AreRefs others [] xs = xs ≡ others
AreRefs others (t ∷ ts) xs = RefFor t.own t.frame (AreRefs others ts) xs

-- a typed one for each table in work, and no other; what brought it, before so many steps were made, does not say that its frame is live
abbrev pub TypedIfOwn : Bool → ℕ → ℕ → (List TypedReference → Type 0) → List TypedReference → Type 0
TypedIfOwn false made f P ys = P ys
TypedIfOwn true made f P ys = (r : TypedReference) × (rest : List TypedReference) × (r.frame ≡ f) × IsSince made r.live × (ys ≡ r ∷ rest) × P rest

abbrev pub AreOwnTyped : ℕ → List TableWork → List TypedReference → Type 0
AreOwnTyped made [] ys = ys ≡ []
AreOwnTyped made (t ∷ ts) ys = TypedIfOwn t.own made t.frame (AreOwnTyped made ts) ys

-- one domain is known to own all of them
abbrev pub AreOwned : Sizes → ℕ → List TableWork → Holdings → Type 0
AreOwned z owner [] h = Unit {0}
AreOwned z owner (t ∷ ts) h = IsTrue (knows_owner z t.frame owner h) × AreOwned z owner ts h

-- ---- the whole
-- the port holds h, but for its steps
abbrev pub HoldsNow : PortValue → Holdings → Type 0
HoldsNow w h = still w ≡ record { post = w.post; holdings = record h { steps = [] }; told = None }

-- these tables are being released, and beside them the port holds h, with no typed reference and no frame in work
pub record Empties (h : Holdings) (w : PortValue) (ts : List TableWork) : Type 0 where
  pub works : h.works ≡ []
  pub typed : h.typed ≡ []
  pub looking : h.looking ≡ []
  pub stack : IsStack ts
  pub tables : AreInRelease (sizes_of w.post.machine) (length w.holdings.steps) None ts w.holdings.works
  pub refs : AreRefs h.refs ts w.holdings.refs
  pub types : AreOwnTyped (length w.holdings.steps) ts w.holdings.typed
  pub owner : ℕ
  pub owned : AreOwned (sizes_of w.post.machine) owner ts w.holdings
  pub hand : HoldsNow w (record h { refs = w.holdings.refs; typed = w.holdings.typed; works = w.holdings.works })

abbrev pub IsReleasing : PortValue → List TableWork → Type 0
IsReleasing w ts = (h : Holdings) × Empties h w ts

-- What a call asks that may leave them partial: they are some, and the first old word is known to name none.
pub record MayUnwind (v : PortValue) (ts : List TableWork) : Type 0 where
  pub may : MayWork v
  pub stands : IsReleasing v ts
  pub some : ts ≢ []
  pub room : v.holdings.old0 ≡ Some 0

-- whatever the port holds beside them, these tables are being released now
abbrev pub StaysEmptying : PortValue → PortValue → List TableWork → List TableWork → Type 0
StaysEmptying u w ts us = (h : Holdings) → Empties h u ts → Empties h w us

-- where no entry of the innermost one was noted as unsettled, nothing stops it, and of the innermost one then none is
abbrev pub StaysSettled : {A : Type 0} → PortValue → PortValue → Result A Stop → Type 0
StaysSettled u w answer = IsSettledTop u.holdings → IfErr answer (λ e. ⊥) × IsSettledTop w.holdings

-- nothing of them is in hand, and the first old word names the outermost one
abbrev pub named_hand : ℕ → Holdings → Holdings
named_hand f h = record h { old0 = Some (f + 1) }

abbrev pub LeavesNamed : PortValue → PortValue → List TableWork → Type 0
LeavesNamed u w ts = (h : Holdings) → Empties h u ts → HoldsNow w (named_hand (outermost_frame ts) h)

-- the one table is dead; or what is left of it is named
abbrev pub LeavesEmptied : PortValue → PortValue → TableWork → Result (Unit {0}) Stop → Type 0
LeavesEmptied u w t (Ok done) = (h : Holdings) → Empties h u (t ∷ []) → HoldsNow w h
LeavesEmptied u w t (Err e) = (h : Holdings) → Empties h u (t ∷ []) → HoldsNow w (named_hand t.frame h)

-- ---- a release
-- where a look is still to tell the owner of a reference's frame, steps tell it from a number on that was reached already
abbrev pub IsMadeSince : ℕ → OwnerFound → Type 0
IsMadeSince made (owners.Of owner) = Unit {0}
IsMadeSince made (owners.Since n) = n ≤ made

-- the only typed reference in hand is to a frame that is known live with that type; no frame is in work, and no look unfinished
pub record HoldsLive (v : PortValue) (f : ℕ) (kind : PageType) : Type 0 where
  pub works : v.holdings.works ≡ []
  pub looking : v.holdings.looking ≡ []
  pub reference : TypedReference
  pub typed : v.holdings.typed ≡ reference ∷ []
  pub frame : reference.frame ≡ f
  pub recent : IsMadeSince (length v.holdings.steps) reference.owner
  pub live : IsTrue (knows_live (sizes_of v.post.machine) f kind v.holdings)

-- it is out of the hand; paused, what is left is named in the first old word
abbrev pub LeavesUnheld : PortValue → PortValue → ℕ → Result (Unit {0}) Stop → Type 0
LeavesUnheld v w f (Ok done) = Holds v w (record v.holdings { typed = [] })
LeavesUnheld v w f (Err e) = Holds v w (record v.holdings { typed = []; old0 = Some (f + 1) })
