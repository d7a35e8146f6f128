-- Writes of a guest, from a port that stands to a plain value.
use Rattle.std.proofs.lemmas.Option.{same_Some}
use Rattle.std.proofs.Common.{◌≡◌, ℕ, Bool, true, Option, Some, None, Result, Ok, Err, refl, sym, ap, ◌∙◌, subst}
use Rattle.xp_words.specs.Entries.{frame_of}
use Rattle.xp_words.specs.declared.place.Place.TheVariants.{Cell}
use Rattle.xp_words.specs.declared.reply.Refusal.TheVariants.{ReadOnly}
use Rattle.xp_words.specs.declared.reply.Stop.{Stop}
use Rattle.xp_words.specs.declared.reply.Stop.TheVariants.{Refused, Paused}
use Rattle.xp_board.specs.Acts.{left_by}
use Rattle.xp_board.specs.Hands.{IsEmptyHand}
use Rattle.xp_board.specs.declared.step.Act.TheVariants.{Store}
use Rattle.xp_board.specs.declared.step.Item.{Item}
use Rattle.xp_board.specs.declared.step.StepKind.TheVariants as kinds
use Rattle.xp_board.specs.Told.{PortValue, is_telling, told_word}
use Rattle.step_maker.specs.Holds.{Same}
use Rattle.step_maker.specs.Moves.{Came}
use Rattle.step_maker.specs.Plain.{Words, change}
use Rattle.step_maker.specs.Visits.{Does, Only, Then, visit_as}
use Rattle.step_maker.proofs.Visiting.{does_came}
use Rattle.course_laws.proofs.Awaiting.{AloneStays}
use Rattle.answer_laws.proofs.Shared.{alone_telling}
use Rattle.replay_laws.specs.Replays.{SameWords}
use Rattle.replay_laws.proofs.Replaying.{as_only, as_then, does_replays}
use Rattle.tlb_walks.specs.Accesses as acc
use Rattle.tlb_walks.specs.Accesses.{GuestWrites, server}
use Rattle.tlb_walks.proofs.Reading.{open_walk}
use Rattle.tlb_walks.specs.Addresses.{access_refusal, cell_index, walk_refusal}
use Rattle.tlb_walks.specs.Translating.{WalkedTo}
use Rattle.tlb_walks.specs.Walks.{WalkBy, top_word}
use Rattle.tlb_walks.specs.declared.walks.Walked.{Walked}
use Rattle.table_law.specs.Exchange.{with_cell}
use Rattle.table_law.specs.Plain.{Plain}
use Rattle.script_law.specs.Values.{Numbers, Outcome, Solo, allowed, stopped, with_frames}
use Rattle.script_law.specs.Walks.{Leads, Stops, Way, from_base, write_at, write_way}
use Rattle.solo_ports.specs.Standing.{Clean}
use Rattle.solo_accesses.specs.Accesses.{AccessComes, IsAnswered, IsRefusedExactly, with_zero}
use Rattle.solo_accesses.specs.Stale.{IsBacked, IsNeverStale, IsServedFresh}
use Rattle.solo_accesses.proofs.Backing.{fresh_does, served}
use Rattle.solo_accesses.proofs.Cells.{CellsOf, OnlyCells, SetsCell, only_then, set_cells, sets_only}
use Rattle.solo_accesses.proofs.Keeping.{KeepsFrames, clean_cells}
use Rattle.solo_accesses.proofs.Reading.{barred_access, keeps_way, no_server, one_server, refused_as, served_way, unread, walk_came, walk_replays}
use Rattle.solo_accesses.proofs.Resting.{cached_empty, holds_empty, same_empty}
use Rattle.solo_accesses.proofs.Walking.{OnWay}
use Rattle.solo_accesses.proofs.Ways.{way_left}

-- a store sets the cell
store_sets : (m u : Words) (f i val : ℕ) → SameWords (change (Store val) (Cell f i) m) u → SetsCell m f i val u
unfolding left_by
store_sets m u f i val same q = same q

keeps_put : (p q : Plain) (f i val : ℕ) → KeepsFrames p q → KeepsFrames p (with_cell f i val q)
keeps_put p q f i val a = record { shares = a.shares; kinds = a.kinds }

module _ (stays : AloneStays) (v w : PortValue) (x : Solo) (clean : Clean v x) (came : Came v w) (empty : IsEmptyHand w.holdings) (only : OnlyCells (told_word v) (told_word w)) (va val : ℕ) where
  stopped_write : (way : Way) (e : Stop) → KeepsFrames x.frames (way_left way) → OnWay v.post.machine (told_word w) (Err e) way → AccessComes w (write_way va val x way) (Err e)
  stopped_write (Stops z q) (Refused y) same on = subst (λ k. IsRefusedExactly w y (stopped (Numbers k) (with_frames q x))) on.0 (refused_as stays v w x clean came empty only y q same on.1)
  stopped_write (Stops z q) (Paused y) same on = absurd on
  stopped_write (Leads f None q) (Refused y) same on = absurd on
  stopped_write (Leads f (Some e) q) (Refused y) same on = absurd on
  stopped_write (Leads f None q) (Paused y) same on = absurd on
  stopped_write (Leads f (Some e) q) (Paused y) same on = absurd on

  stored_write : (f : ℕ) (q : Plain) (k : Words) → KeepsFrames x.frames q → CellsOf v.post.machine k q → SetsCell k f (cell_index va) val (told_word w) → IsAnswered w 0 (write_way va val x (Leads f None q))
  stored_write f q k same cells sets =
      record {
        fine = refl;
        value_is = refl;
        none = refl;
        clean = clean_cells stays v w x (with_cell f (cell_index va) val q) clean came empty only (keeps_put x.frames q f (cell_index va) val same) (set_cells v.post.machine k (told_word w) q f (cell_index va) val cells sets);
      }

  stored_behind : (r : Walked) (k : Words) (way : Way) → r.barrier ≡ None → KeepsFrames x.frames (way_left way) → OnWay v.post.machine k (Ok r) way → SetsCell k (frame_of r.entry) (cell_index va) val (told_word w) →
      IsAnswered w 0 (write_way va val x way)
  stored_behind r k (Leads f None q) free same (frame, barrier, inside, cells) sets = stored_write f q k same cells (subst (λ g. SetsCell k g (cell_index va) val (told_word w)) frame sets)
  stored_behind r k (Leads f (Some e) q) free same (frame, barrier, inside, cells) sets = absurd (let no = sym barrier ∙ free in cc)
  stored_behind r k (Stops z q) free same on sets = absurd on

  barred_behind : (r : Walked) (e : ℕ) (way : Way) → r.barrier ≡ Some e → KeepsFrames x.frames (way_left way) → OnWay v.post.machine (told_word w) (Ok r) way → IsRefusedExactly w (ReadOnly e) (write_way va val x way)
  barred_behind r e (Leads f (Some y) q) is same (frame, barrier, inside, cells) =
      let one : y ≡ e = same_Some y e (sym barrier ∙ is) in
      subst (λ k. IsRefusedExactly w (ReadOnly e) (stopped (Numbers (ReadOnly k)) (with_frames q x))) (sym one) (refused_as stays v w x clean came empty only (ReadOnly e) q same cells)
  barred_behind r e (Leads f None q) is same (frame, barrier, inside, cells) = absurd (let no = sym barrier ∙ is in cc)
  barred_behind r e (Stops z q) is same on = absurd on

-- ---- by its course
module _ (stays : AloneStays) (v w : PortValue) (x : Solo) (clean : Clean v x) (user : Bool) (va val : ℕ) where
  telling : is_telling v ≡ true
  telling = alone_telling v clean.stands.alone

  abbrev way_by : Way
  way_by = from_base v.post.machine va true (x.own (top_word user)) x.frames

  cached_write : (item : Item) (found : ℕ) → server v user va true ≡ Some item → Does v w (Only (visit_as kinds.Guest (Cell item.frame (cell_index va)) (Store val) found)) → Same v w →
      IsBacked v.post.machine v.post.vcpu (told_word v) true item → IsAnswered w 0 (write_way va val x way_by)
  cached_write item found is does same b =
      let visit = visit_as kinds.Guest (Cell item.frame (cell_index va)) (Store val) found in
      let r = as_only (told_word v) (told_word w) visit (does_replays v w (Only visit) telling does) in
      let sets = store_sets (told_word v) (told_word w) item.frame (cell_index va) val r.1 in
      let a = served_way stays v x clean user va true item is b in
      let leads : way_by ≡ Leads item.frame None a.left = a.is ∙ ap (λ (o : Option ℕ). Leads item.frame o a.left) (b.free refl) in
      subst (λ (y : Way). IsAnswered w 0 (write_way va val x y)) (sym leads)
      (stored_write stays v w x clean (does_came v w (Only visit) does) (same_empty v w same clean.stands.empty) (sets_only (told_word v) (told_word w) item.frame (cell_index va) val sets) va val item.frame a.left (told_word v)
      a.keeps a.cells sets)

  stopped_by : (e : Stop) → walk_refusal va ≡ None → Does v w (WalkBy v.post.machine v.post.vcpu user va true (Err e)) → Same v w → AccessComes w (write_way va val x way_by) (Err e)
  stopped_by e free does same =
      let a = walk_came stays v x clean user va true w (Err e) free does in
      stopped_write stays v w x clean (does_came v w _ does) (same_empty v w same clean.stands.empty) a.1 va val way_by e (keeps_way stays v x clean user va true) a.0

  barred_by : (r : Walked) (e : ℕ) → r.barrier ≡ Some e → walk_refusal va ≡ None → Does v w (WalkBy v.post.machine v.post.vcpu user va true (Ok r)) → WalkedTo v w user va true r → IsRefusedExactly w (ReadOnly e) (write_way va val x way_by)
  barred_by r e is free does hand =
      let a = walk_came stays v x clean user va true w (Ok r) free does in
      barred_behind stays v w x clean (does_came v w _ does) (holds_empty v w _ hand.hand (cached_empty v.holdings _ clean.stands.empty)) a.1 va val r e way_by is (keeps_way stays v x clean user va true) a.0

  walked_by : (r : Walked) (found : ℕ) → r.barrier ≡ None → walk_refusal va ≡ None →
      Does v w (Then (WalkBy v.post.machine v.post.vcpu user va true (Ok r)) (Only (visit_as kinds.Guest (Cell (frame_of r.entry) (cell_index va)) (Store val) found))) → WalkedTo v w user va true r →
      IsAnswered w 0 (write_way va val x way_by)
  walked_by r found is free does hand =
      let walk = WalkBy v.post.machine v.post.vcpu user va true (Ok r) in
      let visit = visit_as kinds.Guest (Cell (frame_of r.entry) (cell_index va)) (Store val) found in
      let parts = as_then (told_word v) (told_word w) walk (Only visit) (does_replays v w (Then walk (Only visit)) telling does) in
      let a = walk_replays stays v x clean user va true parts.0 (Ok r) free parts.1 in
      let store = as_only parts.0 (told_word w) visit parts.2 in
      let sets = store_sets parts.0 (told_word w) (frame_of r.entry) (cell_index va) val store.1 in
      stored_behind stays v w x clean (does_came v w _ does) (holds_empty v w _ hand.hand (cached_empty v.holdings _ clean.stands.empty))
      (only_then (told_word v) parts.0 (told_word w) a.1 (sets_only parts.0 (told_word w) (frame_of r.entry) (cell_index va) val sets)) va val r parts.0 way_by is (keeps_way stays v x clean user va true) a.0 sets

  behind_test : (answer : Result ℕ Stop) (o : Outcome) → access_refusal va ≡ None → AccessComes w o answer → AccessComes w (allowed (access_refusal va) x o) answer
  behind_test answer o may a = subst (λ y. AccessComes w (allowed y x o) answer) (sym may) a

  pub write_served : (answer : Result (Unit {0}) Stop) → IsServedFresh v user va true → GuestWrites v w user va val answer → AccessComes w (write_at v.post.machine user va val x) (with_zero answer)
  write_served _ fresh (acc.barred y why does same) = subst (λ o. IsRefusedExactly w y (allowed o x (write_way va val x way_by))) (sym why) (unread stays v w x clean user va y does same)
  write_served _ fresh (acc.cached item found may is does same) = behind_test (Ok 0) _ may (cached_write item found is does same (fresh item may is))
  write_served _ fresh (acc.stopped e may none does same) = behind_test (Err e) _ may (stopped_by e (open_walk va may) does same)
  write_served _ fresh (acc.read_only r e may none is does hand) = behind_test (Err (Refused (ReadOnly e))) _ may (barred_by r e is (open_walk va may) does hand)
  write_served _ fresh (acc.walked r found may none is does hand) = behind_test (Ok 0) _ may (walked_by r found is (open_walk va may) does hand)

pub write_fresh : (v w : PortValue) (user : Bool) (va val : ℕ) (answer : Result (Unit {0}) Stop) → IsNeverStale v w → GuestWrites v w user va val answer → IsServedFresh v user va true
write_fresh v w user va val _ fresh (acc.barred y why does same) = barred_access v user va true y why
write_fresh v w user va val _ fresh (acc.cached item found may is does same) =
    one_server v user va true item is (fresh_does v w item.frame (cell_index va) found (Store val) item fresh (served v user va true item is).may does)
write_fresh v w user va val _ fresh (acc.stopped e may none does same) = no_server v user va true none
write_fresh v w user va val _ fresh (acc.read_only r e may none is does hand) = no_server v user va true none
write_fresh v w user va val _ fresh (acc.walked r found may none is does hand) = no_server v user va true none
