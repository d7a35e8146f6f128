-- What a mark of a frame held came into the hand, and is let go.
use Rattle.std.proofs.Common.{◌≡◌, ◌≢◌, ℕ, ◌<◌, not, Bool, true, false, List, [], ◌∷◌, Some, None, Result, Ok, Err, IfOk, IfErr, refl, sym, ap, ◌∙◌, subst}
use Rattle.xp_words.specs.KindWords.{kind_fields, kind_read, kind_write}
use Rattle.xp_words.specs.Machine.{IsMachine}
use Rattle.xp_words.specs.declared.kind.KindWord.{KindWord}
use Rattle.xp_words.specs.declared.kind.PageType.TheVariants.{Desc}
use Rattle.xp_words.specs.declared.place.Place.TheVariants.{Kind}
use Rattle.xp_words.specs.declared.reply.Stop.{Stop}
use Rattle.xp_board.specs.Hands.{brought_typed, owner_from}
use Rattle.xp_board.specs.KindSteps.{live_typed}
use Rattle.xp_board.specs.LifeSteps.{is_unkept, is_unpinned}
use Rattle.xp_board.specs.Told.{Post, PortValue}
use Rattle.xp_board.specs.declared.holdings.Looking.{Looking}
use Rattle.xp_board.specs.declared.holdings.TypedReference.{TypedReference}
use Rattle.xp_board.specs.declared.step.Act.TheVariants.{Cas}
use Rattle.xp_board.specs.declared.step.StepKind.TheVariants as kinds
use Rattle.xp_board.proofs.KindForms.{fields_of}
use Rattle.step_maker.specs.Holds.{Holds, MayWork, Rests, still}
use Rattle.step_maker.specs.Moves.{Came, Moves}
use Rattle.step_maker.specs.Answers.{Unpins, misses, only_if}
use Rattle.step_maker.proofs.Coming.{came_self, came_trans, moves_came}
use Rattle.step_maker.proofs.Piecing.{serves_came}
use Rattle.kind_words.proofs.KindFacts.{read_is}
use Rattle.table_words.specs.Pins.{took_pin, unpinned_kind}
use Rattle.kept_marks.specs.Marks.{took_back, unkept_kind}
use Rattle.domain_destroy.specs.Asking.{IsDestroyStop, StopsDestroyer, of_domain}
use Rattle.domain_destroy.specs.Clearing.{TakesMarks}
use Rattle.domain_destroy.specs.Clearing as clearing
use Rattle.domain_destroy.specs.Destroying.{TookMarks}
use Rattle.domain_destroy.specs.Emptying.{HoldsOne, LetsGo, LetsGoHand, NamesNone}
use Rattle.domain_destroy.specs.Releasing.{GoesOnDestroying, StopsOnDestroying}
use Rattle.domain_destroy.proofs.LettingGo.{behind_serves, behind_stops, let_go_settled}
use Rattle.domain_destroy.proofs.Marked.{TakesOff, done_steps, done_unkept, done_unpinned, pin_deeds, saw_as, saw_came, saw_looks, takes_kept, takes_pin}
use Rattle.domain_destroy.proofs.Parts.{looks_serve, settled_self}
use Rattle.table_entries.proofs.Shared.{no_looks}

-- ---- the only reference in hand
module _ (v a : PortValue) (f : ℕ) (t : TypedReference) (rests : Rests v) (one : Holds v a (record v.holdings { typed = t ∷ [] })) where
  may_work : MayWork a
  may_work =
      record {
        running = ap (λ (q : PortValue). q.holdings.run) one ∙ rests.may.running;
        no_walk = ap (λ (q : PortValue). q.holdings.walk) one ∙ rests.may.no_walk;
        machine = subst (λ (p : Post). IsMachine p.machine) (sym (ap (λ (q : PortValue). q.post) one)) rests.may.machine;
      }

  pub one_held : f < v.post.machine.frames → t.frame ≡ f → HoldsOne a f
  one_held inside of =
      record {
        may = may_work;
        frame = subst (λ (p : Post). f < p.machine.frames) (sym (ap (λ (q : PortValue). q.post) one)) inside;
        reference = t;
        typed = ap (λ (q : PortValue). q.holdings.typed) one;
        of = of;
        others = record {
          refs = ap (λ (q : PortValue). q.holdings.refs) one ∙ rests.empty.refs;
          typed = refl;
          works = ap (λ (q : PortValue). q.holdings.works) one ∙ rests.empty.works;
          locks = ap (λ (q : PortValue). q.holdings.locks) one ∙ rests.empty.locks;
          ending = ap (λ (q : PortValue). q.holdings.ending) one ∙ rests.empty.ending;
          claimed = ap (λ (q : PortValue). q.holdings.claimed) one ∙ rests.empty.claimed;
          raised = ap (λ (q : PortValue). q.holdings.raised) one ∙ rests.empty.raised;
          credits = ap (λ (q : PortValue). q.holdings.credits) one ∙ rests.empty.credits;
          looking = ap (λ (q : PortValue). q.holdings.looking) one ∙ rests.empty.looking;
        };
      }

  pub one_names : NamesNone v → NamesNone a
  one_names clear = record { first = ap (λ (q : PortValue). q.holdings.old0) one ∙ clear.first; second = ap (λ (q : PortValue). q.holdings.old1) one ∙ clear.second }

-- ---- what came out of the marks
pub pin_came : (v a : PortValue) (f : ℕ) (k : KindWord) → Rests v → Holds v a (took_pin f k v.holdings) → Holds v a (record v.holdings { typed = live_typed f k.kind (owner_from v.holdings) ∷ [] })
pin_came v a f k rests hand =
    hand ∙ ap (λ (xs : List Looking). still (record v { holdings = record v.holdings { looking = xs; typed = live_typed f k.kind (owner_from v.holdings) ∷ v.holdings.typed } })) (no_looks f (kind_write (unpinned_kind k)) v.holdings.looking rests.empty.looking)
    ∙ ap (λ (ts : List TypedReference). still (record v { holdings = record v.holdings { typed = live_typed f k.kind (owner_from v.holdings) ∷ ts } })) rests.empty.typed

pub kept_came : (v a : PortValue) (f : ℕ) (k : KindWord) → Rests v → Holds v a (took_back f k v.holdings) → Holds v a (record v.holdings { typed = brought_typed f (Some k.kind) v.holdings ∷ [] })
kept_came v a f k rests hand =
    hand ∙ ap (λ (xs : List Looking). still (record v { holdings = record v.holdings { looking = xs; typed = brought_typed f (Some k.kind) v.holdings ∷ v.holdings.typed } })) (no_looks f (kind_write (unkept_kind k)) v.holdings.looking rests.empty.looking)
    ∙ ap (λ (ts : List TypedReference). still (record v { holdings = record v.holdings { typed = brought_typed f (Some k.kind) v.holdings ∷ ts } })) rests.empty.typed

stops_behind : (u a w : PortValue) (d : ℕ) (answer : Result (Unit {0}) Stop) → Came u a → IfErr answer IsDestroyStop → IfErr answer (λ e. StopsOnDestroying a w e) → IfErr answer (λ e. StopsDestroyer u w d e)
stops_behind u a w d (Ok done) came is stops = tt
stops_behind u a w d (Err e) came is stops = behind_stops u a w d e came is stops

if_done : {A : Type 0} (P : Type 0) (answer : Result A Stop) → P → IfOk answer (λ a. P)
if_done P (Ok a) is = is
if_done P (Err e) is = tt

-- ---- the mark is off, and what it held let go
module _ (v a w : PortValue) (f x : ℕ) {k new : KindWord} (t : TypedReference) (answer : Result (Unit {0}) Stop) (off : TakesOff x k new) (try : Moves v a (Kind f) (Cas x (kind_write new)) kinds.Kind None x) (rests : Rests v)
    (one : Holds v a (record v.holdings { typed = t ∷ [] })) (on : GoesOnDestroying a w answer) (stops : IfErr answer (λ e. StopsOnDestroying a w e)) (is : IfErr answer IsDestroyStop) where
  came_w : Came a w
  came_w = serves_came a w (of_domain a.post.machine 0 true) (misses a.post.machine answer) (on 0 true (λ due. refl))

  pub gone_took : (answers : List Bool) → Rests w → LetsGoHand a w → IfOk answer (λ done. NamesNone w) → TakesMarks f x v w answers answer → TookMarks v w f x answers answer
  gone_took answers rests_w gone clear course =
      record {
        came = came_trans v a w (moves_came v a (Kind f) (Cas x (kind_write new)) kinds.Kind None x try) came_w;
        rests = rests_w;
        hand = let_go_settled v a w (t ∷ []) rests.empty.typed one gone;
        clear = clear;
        serves = λ u d saw. behind_serves u a w d (only_if k.pinned (Unpins f)) answer (pin_deeds u.post.machine d f k.pinned) (done_steps saw off try refl) on;
        stops = λ u d saw. stops_behind u a w d answer (came_trans u v a (saw_came saw) (moves_came v a (Kind f) (Cas x (kind_write new)) kinds.Kind None x try)) is stops;
        kinds = is;
        unpinned = if_done _ answer (λ u d saw. done_unpinned saw off try refl w came_w);
        unkept = if_done _ answer (λ u d saw. done_unkept saw off try refl w came_w);
        course = course;
      }

-- ---- by the mark
module _ {v a w : PortValue} {f x : ℕ} {k : KindWord} {answers : List Bool} {answer : Result (Unit {0}) Stop} (is : kind_fields x ≡ k) (gone : LetsGo f a w answers answer) where
  pub pin_course : k.pinned ≡ true → Moves v a (Kind f) (Cas x (kind_write (unpinned_kind k))) kinds.Kind None x → TakesMarks f x v w answers answer
  pin_course on try =
      clearing.TakesMarks.unpinned a w answers answer (ap (λ (y : KindWord). y.pinned) is ∙ on) (subst (λ (y : KindWord). Moves v a (Kind f) (Cas x (kind_write (unpinned_kind y))) kinds.Kind None x) (sym is) try) gone

  pub kept_course : k.pinned ≡ false → k.kept ≡ true → k.kind ≢ Desc → Moves v a (Kind f) (Cas x (kind_write (unkept_kind k))) kinds.Kind None x → TakesMarks f x v w answers answer
  kept_course plain on other try =
      clearing.TakesMarks.unkept a w answers answer (ap (λ (y : KindWord). y.pinned) is ∙ plain) (ap (λ (y : KindWord). y.kept) is ∙ on) (λ same. other (sym (ap (λ (y : KindWord). y.kind) is) ∙ same))
      (subst (λ (y : KindWord). Moves v a (Kind f) (Cas x (kind_write (unkept_kind y))) kinds.Kind None x) (sym is) try) gone

-- ---- there was none
pub none_took : {v : PortValue} {f x : ℕ} {k : KindWord} → kind_fields x ≡ k → Rests v → NamesNone v → k.pinned ≡ false → k.kept ≡ false → TookMarks v v f x [] (Ok tt)
none_took {v} {f} {x} {k} is rests clear plain bare =
    let pinless : (kind_fields x).pinned ≡ false = ap (λ (y : KindWord). y.pinned) is ∙ plain in
    let keptless : (kind_fields x).kept ≡ false = ap (λ (y : KindWord). y.kept) is ∙ bare in
    record {
      came = came_self v;
      rests = rests;
      hand = settled_self v;
      clear = clear;
      serves = λ u d saw. looks_serve u v d (Ok tt) refl (saw_looks saw);
      stops = λ u d saw. tt;
      kinds = tt;
      unpinned = λ u d saw. saw_as saw v is_unpinned (came_self v) (ap not pinless);
      unkept = λ u d saw. saw_as saw v is_unkept (came_self v) (ap not keptless);
      course = clearing.TakesMarks.none pinless keptless;
    }

-- ---- as the code does it
found_as : (v a : PortValue) (f x : ℕ) (k new : KindWord) → kind_read x ≡ Some k → Moves v a (Kind f) (Cas (kind_write k) (kind_write new)) kinds.Kind None (kind_write k) → Moves v a (Kind f) (Cas x (kind_write new)) kinds.Kind None x
found_as v a f x k new read try = subst (λ y. Moves v a (Kind f) (Cas y (kind_write new)) kinds.Kind None y) (sym (read_is x k read).1) try

module _ (v a w : PortValue) (f x : ℕ) (k : KindWord) (answer : Result (Unit {0}) Stop) (read : kind_read x ≡ Some k) (rests : Rests v) (on : GoesOnDestroying a w answer) (stops : IfErr answer (λ e. StopsOnDestroying a w e))
    (is : IfErr answer IsDestroyStop) (rests_w : Rests w) (gone : LetsGoHand a w) (clear : IfOk answer (λ done. NamesNone w)) where
  pub pin_took : k.pinned ≡ true → Moves v a (Kind f) (Cas (kind_write k) (kind_write (unpinned_kind k))) kinds.Kind None (kind_write k) → Holds v a (took_pin f k v.holdings) → (answers : List Bool) → LetsGo f a w answers answer → TookMarks v w f x answers answer
  pin_took pin try hand answers lets =
      let there = found_as v a f x k (unpinned_kind k) read try in
      gone_took v a w f x (live_typed f k.kind (owner_from v.holdings)) answer (takes_pin x read pin) there rests (pin_came v a f k rests hand) on stops is answers rests_w gone clear (pin_course (fields_of x k read) lets pin there)

  pub kept_took : k.pinned ≡ false → k.kept ≡ true → k.kind ≢ Desc → Moves v a (Kind f) (Cas (kind_write k) (kind_write (unkept_kind k))) kinds.Kind None (kind_write k) → Holds v a (took_back f k v.holdings) →
      (answers : List Bool) → LetsGo f a w answers answer → TookMarks v w f x answers answer
  kept_took plain kept other try hand answers lets =
      let there = found_as v a f x k (unkept_kind k) read try in
      gone_took v a w f x (brought_typed f (Some k.kind) v.holdings) answer (takes_kept x read plain kept other) there rests (kept_came v a f k rests hand) on stops is answers rests_w gone clear (kept_course (fields_of x k read) lets plain kept other there)
