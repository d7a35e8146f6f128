-- One descriptor that is written for the guest ends as its plain meaning.
use Rattle.std.proofs.Common.{◌≡◌, ◌≢◌, ℕ, ◌<◌, ◌==◌, ◌&&◌, if◌then◌else◌, Bool, true, false, Some, None, Result, Ok, Err, IsTrue, not, refl, sym, ap, ◌∙◌, subst}
use Rattle.std.proofs.lemmas.Bool.Decides.{nat_tests}
use Rattle.std.proofs.Common.{arith}
use Rattle.xp_words.specs.Entries.{fixed}
use Rattle.xp_words.specs.KindWords.{kind_fields, kind_write}
use Rattle.xp_words.specs.Machine.{IsMachine, Machine}
use Rattle.xp_words.specs.PageTypes.{is_none}
use Rattle.xp_words.specs.declared.kind.KindWord.{KindWord}
use Rattle.xp_words.specs.declared.kind.PageType.{PageType}
use Rattle.xp_words.specs.declared.kind.PageType.TheVariants.{Desc, Writable}
use Rattle.xp_words.specs.declared.place.Place.TheVariants.{Cell, Kind, Refs}
use Rattle.xp_words.specs.declared.reply.Refusal.TheVariants as refusals
use Rattle.xp_words.specs.declared.reply.Stop.{Stop}
use Rattle.xp_words.specs.declared.reply.Stop.TheVariants.{Refused, Paused}
use Rattle.xp_board.specs.Readings.{is_live_as, is_type}
use Rattle.xp_board.specs.Told.{Post, PortValue, is_telling, told_word}
use Rattle.xp_board.specs.declared.step.Act.TheVariants.{Load, Store}
use Rattle.xp_board.specs.declared.step.StepKind.TheVariants as steps
use Rattle.step_maker.specs.Moves.{Came, Moves}
use Rattle.step_maker.specs.Plain.{Words, change}
use Rattle.step_maker.proofs.Coming.{came_post, came_trans, moves_came}
use Rattle.step_maker.proofs.Telling.{came_telling, leaves, load_tells, told_there}
use Rattle.step_maker.proofs.Visiting.{does_came}
use Rattle.answer_laws.proofs.Shared.{alone_telling}
use Rattle.course_laws.specs.Courses.{IsFinal, IsOrderly}
use Rattle.course_laws.proofs.Awaiting.{AloneStays, NeitherLostNorBusy, NobodyWaitedFor, alone_orderly}
use Rattle.desc_pages.specs.Descriptors as descriptors
use Rattle.desc_pages.specs.Descriptors.{DescriptorUpdated, SawKind, StoredUnder, TookAs, UpdatesDescriptor, descriptor_refusal, descriptor_type, frame_at, index_at, of_descriptor}
use Rattle.desc_pages.specs.Names.{own_domain}
use Rattle.desc_pages.specs.Pages as pages
use Rattle.desc_pages.specs.Pages.{TookDesc}
use Rattle.exchange_laws.proofs.Going.{took_page_came}
use Rattle.kind_words.specs.Kinds.{live_kind}
use Rattle.table_entries.specs.Acquiring.{GaveRef, GaveType, GotRef}
use Rattle.table_entries.proofs.Shared.{ref_came}
use Rattle.table_law.specs.Alone.{PlainOutcome, alone, take_at, take_reference}
use Rattle.table_law.specs.Exchange.{with_cell}
use Rattle.table_law.specs.Plain.{Describes, Plain, raised_share, share_of, sober, with_share}
use Rattle.table_law.specs.Release.{let_go}
use Rattle.table_law.proofs.Describing.{sober_kind, sober_live}
use Rattle.table_twins.proofs.Entering.{described_leaves}
use Rattle.table_twins.proofs.Sharing.{count_some}
use Rattle.writable_pages.specs.Pages.{TookPage}
use Rattle.script_law.specs.Frames.{write_memory}
use Rattle.script_law.specs.Pages.{fix_descriptor, get_page, give_page, put_descriptor, set_descriptor, store_descriptor, take_page}
use Rattle.script_law.specs.Values.{Solo, Frames, Numbers, Outcome, did, looked, looked_by, next_behind, then_do, with_frames}
use Rattle.solo_ports.specs.Coming.{Comes}
use Rattle.solo_ports.specs.Standing.{Clean, Fair}
use Rattle.solo_pages.specs.Shown.{IsShown, SameBeside}
use Rattle.solo_pages.specs.Ends.{EndsAs, EndsSo, IsEnded}
use Rattle.solo_pages.proofs.Beside.{beside_same, beside_trans}
use Rattle.solo_pages.proofs.Coming.{behind_fine, behind_refused, comes, did_so, ended, shown_clean, shown_stays, stopped_so}
use Rattle.solo_pages.proofs.Describing.{took_so}
use Rattle.solo_pages.proofs.Filling.{lent, returned, stored_here, stored_off}
use Rattle.solo_pages.proofs.Giving.{gave_back, given, given_whole, let_go_is}
use Rattle.solo_pages.proofs.Memory.{EndsBeside, alone_behind, took_memory}
use Rattle.solo_pages.proofs.Referring.{RefTaken, gave_ref, ref_refused, ref_taken}
use Rattle.solo_pages.proofs.Steps.{moves_beside}
use Rattle.solo_pages.proofs.Tables.{allowed_fine, barred_so}
use Rattle.solo_pages.proofs.Whole.{IsReadyFor, alone_whole, ready_for, referred_whole}

-- ---- one cell is stored
module _ (n : Machine) (m w : Words) (f i new : ℕ) (p : Plain) (d : Describes n m p) (left : (q : _) → w q ≡ change (Store new) (Cell f i) m q) where
  in_cell : (b c : Bool) (g j : ℕ) → (g == f) ≡ b → (j == i) ≡ c → p.cells g j ≡ m (Cell g j) → (if b && c then new else p.cells g j) ≡ w (Cell g j)
  in_cell true true g j one two same =
      let a : g ≡ f = grind (arith, nat_tests) in
      let b : j ≡ i = grind (arith, nat_tests) in
      sym (left (Cell g j) ∙ ap (λ h. change (Store new) (Cell f i) m (Cell h j)) a ∙ ap (λ k. change (Store new) (Cell f i) m (Cell f k)) b ∙ stored_here new (Cell f i) m)
  in_cell true false g j one two same =
      let off : j ≢ i = grind (arith, nat_tests) in
      same ∙ sym (left (Cell g j) ∙ stored_off new (Cell f i) (Cell g j) m (λ e. let k : j ≡ i = cc in off k))
  in_cell false c g j one two same =
      let off : g ≢ f = grind (arith, nat_tests) in
      same ∙ sym (left (Cell g j) ∙ stored_off new (Cell f i) (Cell g j) m (λ e. let k : g ≡ f = cc in off k))

  pub cell_described : Describes n w (with_cell f i new p)
  cell_described =
      record {
        shares = λ g inside. d.shares g inside ∙ sym (ap share_of (left (Refs g) ∙ stored_off new (Cell f i) (Refs g) m (λ e. cc)));
        kinds = λ g inside. d.kinds g inside ∙ sym (ap (λ y. sober (kind_fields y)) (left (Kind g) ∙ stored_off new (Cell f i) (Kind g) m (λ e. cc)));
        cells = λ g j inside few. in_cell (g == f) (j == i) g j refl refl (d.cells g j inside few);
      }

pub shown_cell : (n : Machine) (s : ℕ) (v w : PortValue) (f i new old : ℕ) (y : Solo) → is_telling v ≡ true → IsShown n s (told_word v) y → Moves v w (Cell f i) (Store new) steps.Cell None old → IsShown n s (told_word w) (with_frames (with_cell f i new y.frames) y)
shown_cell n s v w f i new old y telling is stores =
    shown_stays n s (told_word v) (told_word w) y (with_cell f i new y.frames) is (moves_beside v w (Cell f i) (Store new) steps.Cell None old tt stores)
    (cell_described n (told_word v) (told_word w) f i new y.frames is.frames (leaves v w (Cell f i) (Store new) steps.Cell None old stores telling)) is.whole

-- a type given back
pub shown_back : (n : Machine) (s : ℕ) (v w : PortValue) (f : ℕ) (t : PageType) (y : Solo) → v.post.machine ≡ n → is_telling v ≡ true → IsTrue (not (is_none t)) → IsShown n s (told_word v) y → GaveType v w f t → IsShown n s (told_word w) (with_frames (given f t y.frames) y)
shown_back n s v w f t y same telling typed is gave =
    let g = gave_back n v w f t y.frames same telling is.frames typed gave.found in
    shown_stays n s (told_word v) (told_word w) y (given f t y.frames) is g.beside g.frames (given_whole n f t y.frames g.inside is.whole)

-- ---- for which type
for_desc : {v : PortValue} {f owner : ℕ} {w : PortValue} {r : Result (Unit {0}) Stop} (t : PageType) → t ≡ Desc → TookAs v f owner t w r → TookDesc v f owner w r
for_desc _ e (descriptors.as_desc w r took) = took
for_desc _ e (descriptors.as_memory w r took) = absurd cc

for_memory : {v : PortValue} {f owner : ℕ} {w : PortValue} {r : Result (Unit {0}) Stop} (t : PageType) → t ≡ Writable → TookAs v f owner t w r → TookPage v f owner w r
for_memory _ e (descriptors.as_desc w r took) = absurd cc
for_memory _ e (descriptors.as_memory w r took) = took

had_came : (v : PortValue) (f owner : ℕ) (w : PortValue) → TookDesc v f owner w (Ok tt) → Came v w
had_came v f owner _ (pages.counted w type) = does_came v w _ type.found
had_came v f owner _ (pages.read y w _ type (pages.fixed z e old fixes stores)) =
    came_trans v y w (does_came v y _ type.found) (came_trans y z w (does_came y z _ fixes.visits) (moves_came z w (Kind f) (Store (kind_write (live_kind Desc 1))) steps.Kind None old stores))

-- ---- under a reference
module _ (n : Machine) (s : ℕ) (v u x : PortValue) (f owner i new : ℕ) (y : Solo) (machine : IsMachine n) (same : v.post.machine ≡ n) (telling : is_telling v ≡ true) (orderly : IsOrderly n (told_word v)) (is : IsShown n s (told_word v) y) (ref : GotRef v u f owner (Ok f)) (found : ℕ) (saw : SawKind u x f found) where
  r : RefTaken n v u owner f y.frames
  r = ref_taken n v u owner f y.frames same machine telling is.frames ref

  abbrev o : PlainOutcome
  o = take_reference n owner f y.frames

  abbrev with_ref : Solo
  with_ref = with_frames o.left y

  to_u : Came v u
  to_u = ref_came v u f owner _ ref

  to_x : Came v x
  to_x = came_trans v u x to_u (moves_came u x (Kind f) Load steps.Look None found saw)

  on_x : x.post.machine ≡ n
  on_x = ap (λ (p : Post). p.machine) (came_post v x to_x) ∙ same

  tells_u : is_telling u ≡ true
  tells_u = came_telling v u to_u ∙ telling

  tells_x : is_telling x ≡ true
  tells_x = came_telling v x to_x ∙ telling

  loaded : (q : _) → told_word x q ≡ told_word u q
  loaded = load_tells u x (Kind f) steps.Look None found saw tells_u

  at_x : IsShown n s (told_word x) with_ref
  at_x =
      let at_u = shown_stays n s (told_word v) (told_word u) y o.left is r.beside r.frames (referred_whole n owner f y.frames is.whole) in
      shown_stays n s (told_word u) (told_word x) with_ref o.left at_u (moves_beside u x (Kind f) Load steps.Look None found tt saw) (described_leaves n x (told_word u) o.left loaded at_u.frames) at_u.whole

  kind_x : told_word x (Kind f) ≡ told_word u (Kind f)
  kind_x = loaded (Kind f)

  -- what was found is what the plain value has
  live_is : ((y.frames.kinds f).validated && is_type (y.frames.kinds f).kind Desc) ≡ is_live_as Desc found
  live_is =
      let at = told_there u x (Kind f) Load steps.Look None found saw tells_u in
      let k : y.frames.kinds f ≡ sober (kind_fields found) = is.frames.kinds f r.lent.inside ∙ ap (λ z. sober (kind_fields z)) (sym r.kind ∙ at) in
      ap (λ (z : KindWord). z.validated && is_type z.kind Desc) k ∙ ap (λ b. b && is_type (sober (kind_fields found)).kind Desc) (sober_live (kind_fields found)) ∙ ap (λ t. (kind_fields found).validated && is_type t Desc) (sober_kind (kind_fields found))

  -- ---- a live descriptor page
  abbrev page : Outcome
  page = take_page f with_ref (with_ref.frames.kinds f)

  page_is : get_page n owner f y ≡ page
  page_is = behind_fine y o (λ z. take_page f z (z.frames.kinds f)) r.free

  abbrev puts : Solo → Outcome
  puts = λ z. did (with_frames (give_page f (with_cell f i new z.frames)) z)

  page_so : (w : PortValue) (a : Result (Unit {0}) Stop) → IsEnded a → TookDesc x f owner w a → EndsSo n s (told_word w) page a
  page_so w a ended took = took_so n s x f owner with_ref machine on_x tells_x at_x r.lent.inside (subst (IsReadyFor n f Desc) (sym kind_x) (ready_for n v u owner f Desc y.frames is.frames is.whole orderly r)) w a ended took

  unput_page : (w : PortValue) (e : Stop) → IsFinal e → TookDesc x f owner w (Err e) → EndsSo {A = Unit {0}} n s (told_word w) (put_descriptor n owner f i new y) (Err e)
  unput_page w (Paused z) final took = absurd final
  unput_page w (Refused z) final took =
      let e = page_so w (Err (Refused z)) final took in
      let at : put_descriptor n owner f i new y ≡ page = ap (λ c. then_do c puts) page_is ∙ ap (λ k. next_behind page k puts) e.1 in
      subst (λ c. EndsSo {A = Unit {0}} n s (told_word w) c (Err (Refused z))) (sym at) e

  put_page : (a b w : PortValue) (old : ℕ) → TookDesc x f owner a (Ok tt) → Moves a b (Cell f i) (Store new) steps.Cell None old → GaveType b w f Desc → Came x a → EndsSo {A = Unit {0}} n s (told_word w) (put_descriptor n owner f i new y) (Ok tt)
  put_page a b w old took stores gave came =
      let e = page_so a (Ok tt) tt took in
      let z = page.left in
      let at : put_descriptor n owner f i new y ≡ puts z = ap (λ c. then_do c puts) page_is ∙ ap (λ k. next_behind page k puts) e.0 in
      let tells_a = came_telling x a came ∙ tells_x in
      let to_b = came_trans x a b came (moves_came a b (Cell f i) (Store new) steps.Cell None old stores) in
      let at_b = shown_cell n s a b f i new old z tells_a e.2 stores in
      did_so n s (told_word w) (put_descriptor n owner f i new y) (with_frames (give_page f (with_cell f i new z.frames)) z) at
      (shown_back n s b w f Desc (with_frames (with_cell f i new z.frames) z) (ap (λ (p : Post). p.machine) (came_post x b to_b) ∙ on_x) (came_telling x b to_b ∙ tells_x) refl at_b gave)

  -- ---- ordinary memory
  abbrev got : PlainOutcome
  got = alone n owner 0 f y.frames

  got_is : got ≡ take_at 0 n owner f o.left
  got_is = alone_behind n owner f y.frames r.free

  memory_so : (w : PortValue) (a : Result (Unit {0}) Stop) → IsEnded a → TookPage x f owner w a → EndsBeside n x w got a
  memory_so w a ended took =
      let e = took_memory n machine x f owner o.left on_x tells_x at_x.frames r.lent.inside (subst (IsReadyFor n f Writable) (sym kind_x) (ready_for n v u owner f Writable y.frames is.frames is.whole orderly r)) w a ended took in
      record { ends = subst (λ c. EndsAs n (told_word w) c a) (sym got_is) e.ends; beside = e.beside }

  from_v : SameBeside (told_word v) (told_word x)
  from_v = beside_trans (told_word v) (told_word u) (told_word x) r.beside (moves_beside u x (Kind f) Load steps.Look None found tt saw)

  abbrev writes : Solo → Outcome
  writes = λ z. did (with_frames (let_go 0 f (with_cell f i new z.frames)) z)

  unput_memory : (w : PortValue) (e : Stop) → IsFinal e → TookPage x f owner w (Err e) → EndsSo {A = Unit {0}} n s (told_word w) (write_memory n owner f i new y) (Err e)
  unput_memory w (Paused z) final took = absurd final
  unput_memory w (Refused z) final took =
      let e = memory_so w (Err (Refused z)) final took in
      behind_refused n s (told_word v) (told_word w) y got writes z is (beside_trans (told_word v) (told_word x) (told_word w) from_v e.beside) (alone_whole n owner f y.frames is.whole) e.ends

  put_memory : (a b w : PortValue) (old : ℕ) → TookPage x f owner a (Ok tt) → Moves a b (Cell f i) (Store new) steps.Cell None old → GaveType b w f Writable → Came x a → EndsSo {A = Unit {0}} n s (told_word w) (write_memory n owner f i new y) (Ok tt)
  put_memory a b w old took stores gave came =
      let e = memory_so a (Ok tt) tt took in
      let z = with_frames got.left y in
      let at_a = shown_stays n s (told_word v) (told_word a) y got.left is (beside_trans (told_word v) (told_word x) (told_word a) from_v e.beside) e.ends.1 (alone_whole n owner f y.frames is.whole) in
      let tells_a = came_telling x a came ∙ tells_x in
      let to_b = came_trans x a b came (moves_came a b (Cell f i) (Store new) steps.Cell None old stores) in
      let at_b = shown_cell n s a b f i new old z tells_a at_a stores in
      let back = shown_back n s b w f Writable (with_frames (with_cell f i new z.frames) z) (ap (λ (p : Post). p.machine) (came_post x b to_b) ∙ on_x) (came_telling x b to_b ∙ tells_x) refl at_b gave in
      did_so n s (told_word w) (write_memory n owner f i new y) (with_frames (let_go 0 f (with_cell f i new got.left)) z) (behind_fine y got writes e.ends.0)
      (subst (λ p. IsShown n s (told_word w) (with_frames p z)) (sym (let_go_is f (with_cell f i new got.left))) back)

  -- ---- which of the two
  abbrev stores : Outcome
  stores = store_descriptor n owner f i new y (y.frames.kinds f)

  store_is : (b : Bool) → is_live_as Desc found ≡ b → stores ≡ (if b then put_descriptor n owner f i new y else write_memory n owner f i new y)
  store_is b e = ap (λ c. if c then put_descriptor n owner f i new y else write_memory n owner f i new y) (live_is ∙ e)

  want_is : (b : Bool) → is_live_as Desc found ≡ b → (want : PageType) → want ≡ descriptor_type found → want ≡ (if b then Desc else Writable)
  want_is b e want is_so = is_so ∙ ap (λ c. if c then Desc else Writable) e

  untaken_by : (b : Bool) → is_live_as Desc found ≡ b → (w : PortValue) (want : PageType) (e : Stop) → IsFinal e → want ≡ descriptor_type found → TookAs x f owner want w (Err e) → EndsSo {A = Unit {0}} n s (told_word w) stores (Err e)
  untaken_by true live w want e final so took = subst (λ c. EndsSo {A = Unit {0}} n s (told_word w) c (Err e)) (sym (store_is true live)) (unput_page w e final (for_desc want (want_is true live want so) took))
  untaken_by false off w want e final so took = subst (λ c. EndsSo {A = Unit {0}} n s (told_word w) c (Err e)) (sym (store_is false off)) (unput_memory w e final (for_memory want (want_is false off want so) took))

  stored_by : (b : Bool) → is_live_as Desc found ≡ b → (a z w : PortValue) (old : ℕ) (want : PageType) → want ≡ descriptor_type found → TookAs x f owner want a (Ok tt) → Moves a z (Cell f i) (Store new) steps.Cell None old → GaveType z w f want →
      EndsSo {A = Unit {0}} n s (told_word w) stores (Ok tt)
  stored_by true live a z w old want so took moves gave =
      let is_desc = want_is true live want so in
      let desc = for_desc want is_desc took in
      subst (λ c. EndsSo {A = Unit {0}} n s (told_word w) c (Ok tt)) (sym (store_is true live)) (put_page a z w old desc moves (subst (GaveType z w f) is_desc gave) (had_came x f owner a desc))
  stored_by false off a z w old want so took moves gave =
      let is_memory = want_is false off want so in
      let page = for_memory want is_memory took in
      subst (λ c. EndsSo {A = Unit {0}} n s (told_word w) c (Ok tt)) (sym (store_is false off)) (put_memory a z w old page moves (subst (GaveType z w f) is_memory gave) (took_page_came x f owner a _ page))

  pub untaken_so : (w : PortValue) (want : PageType) (e : Stop) → IsFinal e → want ≡ descriptor_type found → TookAs x f owner want w (Err e) → EndsSo {A = Unit {0}} n s (told_word w) stores (Err e)
  untaken_so w want e final so took = untaken_by (is_live_as Desc found) refl w want e final so took

  pub stored_so : (a z w : PortValue) (old : ℕ) (want : PageType) → want ≡ descriptor_type found → TookAs x f owner want a (Ok tt) → Moves a z (Cell f i) (Store new) steps.Cell None old → GaveType z w f want → EndsSo {A = Unit {0}} n s (told_word w) stores (Ok tt)
  stored_so a z w old want so took moves gave = stored_by (is_live_as Desc found) refl a z w old want so took moves gave

-- ---- the whole
module _ (n : Machine) (s : ℕ) (v : PortValue) (y : Solo) (machine : IsMachine n) (same : v.post.machine ≡ n) (telling : is_telling v ≡ true) (orderly : IsOrderly n (told_word v)) (is : IsShown n s (told_word v) y) (address word : ℕ) where
  abbrev f : ℕ
  f = frame_at address

  abbrev i : ℕ
  i = index_at address

  abbrev d : ℕ
  d = own_domain v

  abbrev fixes : Solo → Outcome
  fixes = λ z. fix_descriptor n d f i word z (fixed word)

  abbrev sets : Outcome
  sets = set_descriptor n d address word y

  allowed_is : descriptor_refusal address ≡ None → sets ≡ looked n d f y fixes
  allowed_is free = allowed_fine (descriptor_refusal address) y (looked n d f y fixes) free

  unreferred_so : (w : PortValue) (e : Stop) → descriptor_refusal address ≡ None → IsFinal e → GotRef v w f d (Err e) → EndsSo {A = Unit {0}} n s (told_word w) sets (Err e)
  unreferred_so w (Paused z) free final ref = absurd final
  unreferred_so w (Refused z) free final ref =
      let r = ref_refused n v w d f y.frames z same telling is.frames ref in
      let e = r.ends in
      stopped_so n s (told_word w) sets y z (Frames e.0) (allowed_is free ∙ ap (λ c. looked_by c y fixes) e.1) e.2
      (shown_stays n s (told_word v) (told_word w) y y.frames is (beside_same (told_word v) (told_word w) r.same) (described_leaves n w (told_word v) y.frames r.same is.frames) is.whole)

  module _ (u : PortValue) (free : descriptor_refusal address ≡ None) (ref : GotRef v u f d (Ok f)) where
    had : RefTaken n v u d f y.frames
    had = ref_taken n v u d f y.frames same machine telling is.frames ref

    looked_is : sets ≡ fixes y
    looked_is = allowed_is free ∙ ap (λ c. looked_by c y fixes) had.free

    unfixed_so : (w : PortValue) → fixed word ≡ None → GaveRef u w f → EndsSo {A = Unit {0}} n s (told_word w) sets (Err (Refused (refusals.BadDescriptor f i word)))
    unfixed_so w none gave =
        let came = ref_came v u f d _ ref in
        let lends = had.lent.share in
        let some : 0 < lends.count = count_some n (told_word v) y.frames f lends is.frames (sym (is.frames.shares f had.lent.inside) ∙ had.lent.was) in
        let at_u : Describes n (told_word u) (with_share f (raised_share lends) y.frames) = subst (λ (o : PlainOutcome). Describes n (told_word u) o.left) had.lent.is had.frames in
        let back = gave_ref n u w f (lent f lends y.frames had.lent.was some) (ap (λ (p : Post). p.machine) (came_post v u came) ∙ same) (came_telling v u came ∙ telling) at_u gave in
        stopped_so n s (told_word w) sets y (refusals.BadDescriptor f i word) (Numbers (refusals.BadDescriptor f i word)) (looked_is ∙ ap (fix_descriptor n d f i word y) none) refl
        (shown_stays n s (told_word v) (told_word w) y y.frames is (beside_trans (told_word v) (told_word u) (told_word w) had.beside back.1) (returned f lends y.frames had.lent.was some n (told_word w) back.0) is.whole)

    under_so : (new : ℕ) (want : PageType) (w : PortValue) (a : Result (Unit {0}) Stop) → IsEnded a → fixed word ≡ Some new → StoredUnder u f d i new want w a → EndsSo n s (told_word w) (store_descriptor n d f i new y (y.frames.kinds f)) a
    under_so new want w _ ended so (descriptors.untaken x found e saw for took) = untaken_so n s v u x f d i new y machine same telling orderly is ref found saw w want e ended for took
    under_so new want w _ ended so (descriptors.stored x a z found old saw for took stores gave) = stored_so n s v u x f d i new y machine same telling orderly is ref found saw a z w old want for took stores gave

    referred_so : (new : ℕ) (want : PageType) (w : PortValue) (a : Result (Unit {0}) Stop) → IsEnded a → fixed word ≡ Some new → StoredUnder u f d i new want w a → EndsSo n s (told_word w) sets a
    referred_so new want w a ended so under = subst (λ c. EndsSo n s (told_word w) c a) (sym (looked_is ∙ ap (fix_descriptor n d f i word y) so)) (under_so new want w a ended so under)

  pub updates_so : (want : PageType) (w : PortValue) (a : Result (Unit {0}) Stop) → IsEnded a → UpdatesDescriptor v address word want w a → EndsSo n s (told_word w) sets a
  updates_so _ _ _ ended (descriptors.barred z by) = barred_so n s v y (descriptor_refusal address) (looked n d f y fixes) z is by
  updates_so _ _ _ ended (descriptors.unreferred w e free ref) = unreferred_so w e free ended ref
  updates_so _ _ _ ended (descriptors.unfixed u w free ref none gave) = unfixed_so u free ref w none gave
  updates_so _ _ _ ended (descriptors.referred u w new want a free ref so under) = referred_so u free ref new want w a ended so under

-- ---- the law
pub descriptor_comes : AloneStays → NeitherLostNorBusy → NobodyWaitedFor → (v w : PortValue) (x : Solo) (address word : ℕ) (answer : Result (Unit {0}) Stop) → Clean v x → Fair v w → DescriptorUpdated v w address word answer →
    Comes (λ v x. ⊥) w x (set_descriptor v.post.machine (own_domain v) address word x) answer
descriptor_comes stays neither nobody v w x address word answer clean fair a =
    comes stays v w x (set_descriptor v.post.machine (own_domain v) address word x) answer clean a.came a.rests.empty
    (updates_so v.post.machine v.post.vcpu v x clean.stands.machine refl (alone_telling v clean.stands.alone) (alone_orderly v clean.stands.alone) (shown_clean v x clean) address word a.want w answer
    (ended stays neither nobody v w x (of_descriptor (own_domain v) address word a.want) answer clean fair refl refl a.stops) a.course)
