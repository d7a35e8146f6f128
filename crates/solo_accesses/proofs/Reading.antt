-- Walks and reads of a guest, from a port that stands to a plain value.
use Rattle.std.proofs.lemmas.Option.{same_Some}
use Rattle.std.proofs.Common.{◌≡◌, ℕ, ◌<◌, Bool, true, false, Option, Some, None, Result, Ok, Err, refl, sym, ap, ◌∙◌, subst, arith, lit<}
use Rattle.xp_words.specs.Entries.{frame_of}
use Rattle.xp_words.specs.declared.place.Place.TheVariants.{Cell, Vcpu}
use Rattle.xp_words.specs.declared.reply.Refusal.{Refusal}
use Rattle.xp_words.specs.declared.reply.Stop.{Stop}
use Rattle.xp_words.specs.declared.reply.Stop.TheVariants.{Refused, Paused}
use Rattle.xp_board.specs.Hands.{IsEmptyHand}
use Rattle.xp_board.specs.declared.step.Act.TheVariants.{Load}
use Rattle.xp_board.specs.declared.step.Item.{Item}
use Rattle.xp_board.specs.declared.step.StepKind.TheVariants as kinds
use Rattle.xp_board.specs.Told.{PortValue, is_telling, told_word}
use Rattle.step_maker.specs.Holds.{Same}
use Rattle.step_maker.specs.Moves.{Came}
use Rattle.step_maker.specs.Plain.{Words}
use Rattle.step_maker.specs.Visits.{Does, Nothing, Only, Then, visit_as}
use Rattle.step_maker.proofs.Visiting.{does_came}
use Rattle.course_laws.proofs.Awaiting.{AloneStays}
use Rattle.answer_laws.proofs.Shared.{alone_telling}
use Rattle.replay_laws.specs.Replays.{ReplaysAs, SameWords}
use Rattle.replay_laws.proofs.Replaying.{as_nothing, as_only, as_then, does_replays, look_leaves}
use Rattle.tlb_walks.specs.Accesses as acc
use Rattle.tlb_walks.specs.Accesses.{GuestReads, server}
use Rattle.tlb_walks.proofs.Reading.{open_walk}
use Rattle.tlb_walks.specs.Addresses.{access_refusal, cell_index, walk_refusal}
use Rattle.tlb_walks.specs.Translating.{WalkedTo}
use Rattle.tlb_walks.specs.Walks.{WalkBy, top_word}
use Rattle.tlb_walks.specs.declared.walks.Walked.{Walked}
use Rattle.table_law.specs.Plain.{Plain}
use Rattle.script_law.specs.Shown.{IsShownWord, base}
use Rattle.script_law.specs.Values.{Numbers, Outcome, Solo, allowed, stopped, with_frames}
use Rattle.script_law.specs.Walks.{Leads, Stops, Way, from_base, read_at, read_by}
use Rattle.solo_ports.specs.Standing.{Clean}
use Rattle.solo_accesses.specs.Accesses.{AccessComes, IsAnswered, IsRefusedExactly}
use Rattle.solo_accesses.specs.Stale.{IsBacked, IsNeverStale, IsServedFresh}
use Rattle.solo_accesses.proofs.Backing.{backed_way, fresh_does, served}
use Rattle.solo_accesses.proofs.Cells.{CellsOf, OnlyCells, cells_same, only_same, only_then}
use Rattle.solo_accesses.proofs.Keeping.{KeepsFrames, clean_cells}
use Rattle.solo_accesses.proofs.Resting.{cached_empty, holds_empty, same_empty}
use Rattle.solo_accesses.proofs.Walking.{OnWay, WalkedAs}
use Rattle.solo_accesses.proofs.Ways.{base_kinds, base_shares, way_left}
use Rattle.solo_accesses.proofs.Whole.{top_few, walked_whole}

pub shown_top : (user : Bool) → IsShownWord (top_word user)
shown_top true = base (lit< tt)
shown_top false = base (lit< tt)

cell_few : (va : ℕ) → cell_index va < 512
cell_few va = omega arith

-- ---- a walk
module _ (stays : AloneStays) (v : PortValue) (x : Solo) (clean : Clean v x) (user : Bool) (va : ℕ) (write : Bool) where
  abbrev pub way_of : Way
  way_of = from_base v.post.machine va write (x.own (top_word user)) x.frames

  base_is : x.own (top_word user) ≡ told_word v (Vcpu v.post.vcpu (top_word user))
  base_is = clean.stands.others.own (top_word user) (shown_top user)

  pub keeps_way : KeepsFrames x.frames (way_left way_of)
  keeps_way = record { shares = base_shares v.post.machine va write (x.own (top_word user)) x.frames; kinds = base_kinds v.post.machine va write (x.own (top_word user)) x.frames }

  pub walk_replays : (u : Words) (answer : Result Walked Stop) → walk_refusal va ≡ None → ReplaysAs (told_word v) (WalkBy v.post.machine v.post.vcpu user va write answer) u → WalkedAs v.post.machine (told_word v) u answer way_of
  walk_replays u answer free a =
      subst (λ b. WalkedAs v.post.machine (told_word v) u answer (from_base v.post.machine va write b x.frames)) (sym base_is)
      (walked_whole v.post.machine v.post.vcpu user va write answer (told_word v) u x.frames clean.frames.cells free (top_few v v.post.vcpu user clean.stands.alone) a)

  -- by these steps alone, to w, it was refused, or led on
  pub walk_came : (w : PortValue) (answer : Result Walked Stop) → walk_refusal va ≡ None → Does v w (WalkBy v.post.machine v.post.vcpu user va write answer) → WalkedAs v.post.machine (told_word v) (told_word w) answer way_of
  walk_came w answer free does =
      walk_replays (told_word w) answer free (does_replays v w (WalkBy v.post.machine v.post.vcpu user va write answer) (alone_telling v clean.stands.alone) does)

  -- a plain value with these cells
  pub clean_way : (w : PortValue) (q : Plain) → Came v w → IsEmptyHand w.holdings → OnlyCells (told_word v) (told_word w) → KeepsFrames x.frames q → CellsOf v.post.machine (told_word w) q → Clean w (with_frames q x)
  clean_way w q came empty only same cells = clean_cells stays v w x q clean came empty only same cells

-- ---- a read that is refused
module _ (stays : AloneStays) (v w : PortValue) (x : Solo) (clean : Clean v x) (came : Came v w) (empty : IsEmptyHand w.holdings) (only : OnlyCells (told_word v) (told_word w)) where
  pub refused_as : (y : Refusal) (q : Plain) → KeepsFrames x.frames q → CellsOf v.post.machine (told_word w) q → IsRefusedExactly w y (stopped (Numbers y) (with_frames q x))
  refused_as y q same cells = record { is = refl; none = refl; clean = clean_cells stays v w x q clean came empty only same cells }

  stopped_read : (va : ℕ) (way : Way) (e : Stop) → KeepsFrames x.frames (way_left way) → OnWay v.post.machine (told_word w) (Err e) way → AccessComes w (read_by va x way) (Err e)
  stopped_read va (Stops z q) (Refused y) same on = subst (λ k. IsRefusedExactly w y (stopped (Numbers k) (with_frames q x))) on.0 (refused_as y q same on.1)
  stopped_read va (Stops z q) (Paused y) same on = absurd on
  stopped_read va (Leads f b q) (Refused y) same on = absurd on
  stopped_read va (Leads f b q) (Paused y) same on = absurd on

  -- ---- one that is done
  loaded_read : (va f word : ℕ) (barrier : Option ℕ) (q : Plain) (k : Words) → f < v.post.machine.frames → KeepsFrames x.frames q → CellsOf v.post.machine k q → SameWords k (told_word w) → k (Cell f (cell_index va)) ≡ word →
      IsAnswered w word (read_by va x (Leads f barrier q))
  loaded_read va f word barrier q k inside same cells stay is =
      record { fine = refl; value_is = cells f (cell_index va) inside (cell_few va) ∙ is; none = refl; clean = clean_cells stays v w x q clean came empty only same (cells_same v.post.machine k (told_word w) q stay cells) }

  walked_read : (va word : ℕ) (r : Walked) (k : Words) (way : Way) → KeepsFrames x.frames (way_left way) → OnWay v.post.machine k (Ok r) way → SameWords k (told_word w) → k (Cell (frame_of r.entry) (cell_index va)) ≡ word →
      AccessComes w (read_by va x way) (Ok word)
  walked_read va word r k (Leads f b q) same (frame, barrier, inside, cells) stay is = loaded_read va f word b q k inside same cells stay (ap (λ g. k (Cell g (cell_index va))) (sym frame) ∙ is)
  walked_read va word r k (Stops z q) same on stay is = absurd on

-- ---- by a translation
-- a translation that serves leads where the plain walk leads
pub record ServedWay (v : PortValue) (x : Solo) (f : ℕ) (barrier : Option ℕ) (way : Way) : Type 0 where
  pub inside : f < v.post.machine.frames
  pub left : Plain
  pub is : way ≡ Leads f barrier left
  pub keeps : KeepsFrames x.frames left
  pub cells : CellsOf v.post.machine (told_word v) left

pub served_way : (stays : AloneStays) (v : PortValue) (x : Solo) → Clean v x → (user : Bool) (va : ℕ) (write : Bool) (item : Item) → server v user va write ≡ Some item → (b : IsBacked v.post.machine v.post.vcpu (told_word v) write item) →
    ServedWay v x item.frame b.barrier (from_base v.post.machine va write (x.own (top_word user)) x.frames)
served_way stays v x clean user va write item is b =
    let n = v.post.machine in
    let s = served v user va write item is in
    let a = backed_way n v.post.vcpu (told_word v) user va write item x.frames clean.frames.cells (top_few v v.post.vcpu user clean.stands.alone) b s.user_is s.page_is in
    let leads = ap (λ (y : ℕ). from_base n va write y x.frames) (base_is stays v x clean user va write) ∙ a.is in
    record { inside = a.inside; left = a.left; is = leads; keeps = subst (λ (y : Way). KeepsFrames x.frames (way_left y)) leads (keeps_way stays v x clean user va write); cells = a.cells }

-- ---- by its course
module _ (stays : AloneStays) (v w : PortValue) (x : Solo) (clean : Clean v x) (user : Bool) (va : ℕ) where
  telling : is_telling v ≡ true
  telling = alone_telling v clean.stands.alone

  pub unread : (y : Refusal) → Does v w Nothing → Same v w → IsRefusedExactly w y (stopped (Numbers y) x)
  unread y does same =
      let stay = as_nothing (told_word v) (told_word w) (does_replays v w Nothing telling does) in
      refused_as stays v w x clean (does_came v w Nothing does) (same_empty v w same clean.stands.empty) (only_same (told_word v) (told_word w) stay) y x.frames (record { shares = refl; kinds = refl })
      (cells_same v.post.machine (told_word v) (told_word w) x.frames stay clean.frames.cells)

  cached_read : (item : Item) (word : ℕ) → server v user va false ≡ Some item → Does v w (Only (visit_as kinds.Guest (Cell item.frame (cell_index va)) Load word)) → Same v w →
      IsBacked v.post.machine v.post.vcpu (told_word v) false item → IsAnswered w word (read_by va x (from_base v.post.machine va false (x.own (top_word user)) x.frames))
  cached_read item word is does same b =
      let visit = visit_as kinds.Guest (Cell item.frame (cell_index va)) Load word in
      let r = as_only (told_word v) (told_word w) visit (does_replays v w (Only visit) telling does) in
      let stay : SameWords (told_word v) (told_word w) = λ q. r.1 q ∙ look_leaves (told_word v) visit refl q in
      let a = served_way stays v x clean user va false item is b in
      subst (λ (y : Way). IsAnswered w word (read_by va x y)) (sym a.is)
      (loaded_read stays v w x clean (does_came v w (Only visit) does) (same_empty v w same clean.stands.empty) (only_same (told_word v) (told_word w) stay) va item.frame word b.barrier a.left (told_word v) a.inside a.keeps a.cells stay r.0)

  stopped_by : (e : Stop) → walk_refusal va ≡ None → Does v w (WalkBy v.post.machine v.post.vcpu user va false (Err e)) → Same v w →
      AccessComes w (read_by va x (from_base v.post.machine va false (x.own (top_word user)) x.frames)) (Err e)
  stopped_by e free does same =
      let a = walk_came stays v x clean user va false w (Err e) free does in
      stopped_read stays v w x clean (does_came v w _ does) (same_empty v w same clean.stands.empty) a.1 va (from_base v.post.machine va false (x.own (top_word user)) x.frames) e (keeps_way stays v x clean user va false) a.0

  walked_by : (r : Walked) (word : ℕ) → walk_refusal va ≡ None → Does v w (Then (WalkBy v.post.machine v.post.vcpu user va false (Ok r)) (Only (visit_as kinds.Guest (Cell (frame_of r.entry) (cell_index va)) Load word))) →
      WalkedTo v w user va false r → AccessComes w (read_by va x (from_base v.post.machine va false (x.own (top_word user)) x.frames)) (Ok word)
  walked_by r word free does hand =
      let walk = WalkBy v.post.machine v.post.vcpu user va false (Ok r) in
      let visit = visit_as kinds.Guest (Cell (frame_of r.entry) (cell_index va)) Load word in
      let parts = as_then (told_word v) (told_word w) walk (Only visit) (does_replays v w (Then walk (Only visit)) telling does) in
      let a = walk_replays stays v x clean user va false parts.0 (Ok r) free parts.1 in
      let load = as_only parts.0 (told_word w) visit parts.2 in
      let stay : SameWords parts.0 (told_word w) = λ q. load.1 q ∙ look_leaves parts.0 visit refl q in
      walked_read stays v w x clean (does_came v w _ does) (holds_empty v w _ hand.hand (cached_empty v.holdings _ clean.stands.empty)) (only_then (told_word v) parts.0 (told_word w) a.1 (only_same parts.0 (told_word w) stay))
      va word r parts.0 (from_base v.post.machine va false (x.own (top_word user)) x.frames) (keeps_way stays v x clean user va false) a.0 stay load.0

  behind_test : (answer : Result ℕ Stop) (o : Outcome) → access_refusal va ≡ None → AccessComes w o answer → AccessComes w (allowed (access_refusal va) x o) answer
  behind_test answer o may a = subst (λ y. AccessComes w (allowed y x o) answer) (sym may) a

  pub read_served : (answer : Result ℕ Stop) → IsServedFresh v user va false → GuestReads v w user va answer → AccessComes w (read_at v.post.machine user va x) answer
  read_served _ fresh (acc.barred y why does same) =
      subst (λ o. IsRefusedExactly w y (allowed o x (read_by va x (from_base v.post.machine va false (x.own (top_word user)) x.frames)))) (sym why) (unread y does same)
  read_served _ fresh (acc.cached item word may is does same) = behind_test (Ok word) _ may (cached_read item word is does same (fresh item may is))
  read_served _ fresh (acc.stopped e may none does same) = behind_test (Err e) _ may (stopped_by e (open_walk va may) does same)
  read_served _ fresh (acc.walked r word may none does hand) = behind_test (Ok word) _ may (walked_by r word (open_walk va may) does hand)

-- ---- where translations are never stale the one that serves is what a walk would find
pub one_server : (v : PortValue) (user : Bool) (va : ℕ) (write : Bool) (item : Item) → server v user va write ≡ Some item → IsBacked v.post.machine v.post.vcpu (told_word v) write item → IsServedFresh v user va write
one_server v user va write item is b other may at = subst (λ y. IsBacked v.post.machine v.post.vcpu (told_word v) write y) (same_Some item other (sym is ∙ at)) b

pub no_server : (v : PortValue) (user : Bool) (va : ℕ) (write : Bool) → server v user va write ≡ None → IsServedFresh v user va write
no_server v user va write none item may is = absurd (let no = sym none ∙ is in cc)

pub barred_access : (v : PortValue) (user : Bool) (va : ℕ) (write : Bool) (y : Refusal) → access_refusal va ≡ Some y → IsServedFresh v user va write
barred_access v user va write y why item may is = absurd (let no = sym may ∙ why in cc)

pub read_fresh : (v w : PortValue) (user : Bool) (va : ℕ) (answer : Result ℕ Stop) → IsNeverStale v w → GuestReads v w user va answer → IsServedFresh v user va false
read_fresh v w user va _ fresh (acc.barred y why does same) = barred_access v user va false y why
read_fresh v w user va _ fresh (acc.cached item word may is does same) =
    one_server v user va false item is (fresh_does v w item.frame (cell_index va) word Load item fresh (served v user va false item is).may does)
read_fresh v w user va _ fresh (acc.stopped e may none does same) = no_server v user va false none
read_fresh v w user va _ fresh (acc.walked r word may none does hand) = no_server v user va false none
