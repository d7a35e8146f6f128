-- A page of the LDT that is touched ends as its plain meaning.
use Rattle.std.proofs.Common.{◌≡◌, ◌≢◌, ℕ, zero, suc, ◌+◌, ◌<◌, ◌==◌, if◌then◌else◌, Bool, true, false, Option, Some, None, Result, Ok, Err, refl, sym, ap, ◌∙◌, subst, arith}
use Rattle.std.proofs.lemmas.Bool.Decides.{nat_tests}
use Rattle.xp_words.specs.ContextWords.{IsLdtBase, ldt_read}
use Rattle.xp_words.specs.Entries.{frame_of}
use Rattle.xp_words.specs.Machine.{Machine}
use Rattle.xp_words.specs.declared.context.LdtBase.{LdtBase}
use Rattle.xp_words.specs.declared.place.Place.TheVariants.{Vcpu}
use Rattle.xp_words.specs.declared.reply.Refusal.TheVariants as refusals
use Rattle.xp_words.specs.declared.reply.Stop.{Stop}
use Rattle.xp_words.specs.declared.reply.Stop.TheVariants.{Refused, Paused}
use Rattle.xp_board.specs.Acts.{left_by}
use Rattle.xp_board.specs.After.{learned_own, noted}
use Rattle.xp_board.specs.Hands.{IsEmptyHand}
use Rattle.xp_board.specs.Told.{Post, PortValue, is_telling, told_word}
use Rattle.xp_board.specs.declared.holdings.Holdings.{Holdings}
use Rattle.xp_board.specs.declared.step.Act.TheVariants.{Load}
use Rattle.xp_board.specs.declared.step.StepKind.TheVariants as steps
use Rattle.xp_board.specs.declared.step.Step.{Step}
use Rattle.step_maker.specs.Moves.{Came, Moves, step_at}
use Rattle.step_maker.proofs.Coming.{came_post, came_trans, moves_came}
use Rattle.step_maker.proofs.Visiting.{does_came}
use Rattle.step_maker.proofs.Telling.{came_telling, load_tells, told_there}
use Rattle.answer_laws.proofs.Shared.{alone_telling}
use Rattle.course_laws.proofs.Awaiting.{AloneStays, NeitherLostNorBusy, NobodyWaitedFor, alone_orderly}
use Rattle.desc_pages.proofs.Short.{got_came}
use Rattle.desc_pages.specs.Names.{NamesPage, own_domain}
use Rattle.desc_pages.specs.Pages.{GotDesc}
use Rattle.tlb_walks.specs.Addresses.{walk_refusal}
use Rattle.tlb_walks.specs.Translating.{Walks}
use Rattle.ldt_pages.specs.Touching as touching
use Rattle.ldt_pages.specs.Touching.{FoundBase, FoundPage, LdtTouched, TouchesLdt, is_beyond, of_touch, refusal_at, touch_address}
use Rattle.table_twins.proofs.Entering.{described_leaves}
use Rattle.script_law.specs.Frames.{rename}
use Rattle.script_law.specs.Pages.{get_page, give_page}
use Rattle.script_law.specs.Shown.{tables}
use Rattle.script_law.specs.Values.{Solo, Numbers, Outcome, allowed, did, next_behind, stopped, then_do, with_frames}
use Rattle.script_law.specs.Walks.{Leads, from_base, take_touched, touch_by, touch_ldt, touch_unnamed}
use Rattle.solo_ports.specs.Coming.{Comes}
use Rattle.solo_ports.specs.Standing.{Clean, Fair, nothing}
use Rattle.solo_pages.specs.Shown.{IsShown}
use Rattle.solo_pages.specs.Ends.{EndsSo, IsEnded}
use Rattle.solo_accesses.specs.Accesses.{AccessComes}
use Rattle.solo_accesses.specs.Walking.{IsTouchLed}
use Rattle.solo_accesses.proofs.Touching.{touch_unwalked, touch_walked}
use Rattle.solo_pages.proofs.Beside.{beside_same}
use Rattle.solo_pages.proofs.Coming.{clean_behind, comes, did_so, ended, shown_clean, shown_stays, stopped_so}
use Rattle.solo_pages.proofs.Describing.{got_desc_so}
use Rattle.solo_pages.proofs.Naming.{named_so, names_came}

-- ---- looks at own words
-- leave all words
pub shown_looked : (n : Machine) (s : ℕ) (v w : PortValue) (t k x : ℕ) (y : Solo) → is_telling v ≡ true → IsShown n s (told_word v) y → Moves v w (Vcpu t k) Load steps.Look None x → IsShown n s (told_word w) y
shown_looked n s v w t k x y telling is looks =
    let same = load_tells v w (Vcpu t k) steps.Look None x looks telling in
    shown_stays n s (told_word v) (told_word w) y y.frames is (beside_same (told_word v) (told_word w) same) (described_leaves n w (told_word v) y.frames same is.frames) is.whole

-- and the hand empty
own_empty : (a b c : Bool) (x : ℕ) (h : Holdings) → IsEmptyHand h → IsEmptyHand (if a then record h { old0 = Some x } else if b then record h { old1 = Some x } else if c then record h { run = Some x } else h)
own_empty true b c x h e = record { refs = e.refs; typed = e.typed; works = e.works; locks = e.locks; ending = e.ending; claimed = e.claimed; raised = e.raised; credits = e.credits; looking = e.looking }
own_empty false true c x h e = record { refs = e.refs; typed = e.typed; works = e.works; locks = e.locks; ending = e.ending; claimed = e.claimed; raised = e.raised; credits = e.credits; looking = e.looking }
own_empty false false true x h e = record { refs = e.refs; typed = e.typed; works = e.works; locks = e.locks; ending = e.ending; claimed = e.claimed; raised = e.raised; credits = e.credits; looking = e.looking }
own_empty false false false x h e = e

word_empty : (b : Bool) (k x : ℕ) (h : Holdings) → IsEmptyHand h → IsEmptyHand (if b then learned_own k x h else h)
word_empty true k x h e = own_empty (k == 2) (k == 3) (k == 6) x h e
word_empty false k x h e = e

noted_empty : (y : Step) (x : ℕ) (h : Holdings) → IsEmptyHand h → IsEmptyHand (noted y x h)
noted_empty y x h e = record { refs = e.refs; typed = e.typed; works = e.works; locks = e.locks; ending = e.ending; claimed = e.claimed; raised = e.raised; credits = e.credits; looking = e.looking }

pub looked_empty : (v w : PortValue) (t k x : ℕ) → Moves v w (Vcpu t k) Load steps.Look None x → IsEmptyHand v.holdings → IsEmptyHand w.holdings
looked_empty v w t k x looks empty =
    let h : Holdings = if t == v.post.vcpu then learned_own k (left_by Load x) v.holdings else v.holdings in
    subst (λ (y : PortValue). IsEmptyHand y.holdings) (sym looks.to) (noted_empty (step_at v.post.machine (Vcpu t k) Load steps.Look None) x h (word_empty (t == v.post.vcpu) k (left_by Load x) v.holdings empty))

-- ---- the law
-- a page within the entries is one of 16
page_few : (page : ℕ) (b : LdtBase) → IsLdtBase b → is_beyond page b ≡ false → page < 16
page_few page b valid within = grind (arith, nat_tests)

module _ (stays : AloneStays) (v : PortValue) (x : Solo) (clean : Clean v x) (page : ℕ) where
  abbrev n : Machine
  n = v.post.machine

  abbrev s : ℕ
  s = v.post.vcpu

  abbrev d : ℕ
  d = own_domain v

  abbrev touches : Outcome
  touches = touch_ldt n d page x

  telling : is_telling v ≡ true
  telling = alone_telling v clean.stands.alone

  is : IsShown n s (told_word v) x
  is = shown_clean v x clean

  module _ (u : PortValue) (base : ℕ) (b : LdtBase) (found : FoundBase v u base b) where
    base_is : ldt_read (x.own 7) ≡ Some b
    base_is = ap ldt_read (is.others.own 7 (tables (omega arith) (omega arith)) ∙ told_there v u (Vcpu s 7) Load steps.Look None base found.looks telling) ∙ found.reads

    based : touches ≡ touch_by n d page x (Some b) (x.own (22 + page))
    based = ap (λ o. touch_by n d page x o (x.own (22 + page))) base_is

    beyond_by : (k : ℕ) → is_beyond page b ≡ true → touch_by n d page x (Some b) k ≡ stopped (Numbers refusals.BadRange) x
    beyond_by zero past = ap (λ o. allowed o x (take_touched n d page x (from_base n (touch_address page b) false (x.own 0) x.frames))) (ap (λ c. if c then Some refusals.BadRange else walk_refusal (touch_address page b)) past)
    beyond_by (suc k) past = ap (λ c. if c then stopped (Numbers refusals.BadRange) x else did x) past

    beyond_so : is_beyond page b ≡ true → EndsSo {A = Unit {0}} n s (told_word u) touches (Err (Refused refusals.BadRange))
    beyond_so past =
        stopped_so n s (told_word u) touches x refusals.BadRange (Numbers refusals.BadRange) (based ∙ beyond_by (x.own (22 + page)) past) refl
        (shown_looked n s v u s 7 base x telling is found.looks)

  module _ (u : PortValue) (base : ℕ) (b : LdtBase) (word : ℕ) (found : FoundPage v u page base b word) where
    abbrev seen : PortValue
    seen = found.seen

    to_seen : Came v seen
    to_seen = moves_came v seen (Vcpu s 7) Load steps.Look None base found.based.looks

    pub to_u : Came v u
    to_u = came_trans v seen u to_seen (moves_came seen u (Vcpu s (22 + page)) Load steps.Look None word found.looks)

    tells_seen : is_telling seen ≡ true
    tells_seen = came_telling v seen to_seen ∙ telling

    at_seen : IsShown n s (told_word seen) x
    at_seen = shown_looked n s v seen s 7 base x telling is found.based.looks

    few : page < 16
    few = page_few page b found.based.valid found.within

    word_is : x.own (22 + page) ≡ word
    word_is = at_seen.others.own (22 + page) (tables (omega arith) (omega (arith, few))) ∙ told_there seen u (Vcpu s (22 + page)) Load steps.Look None word found.looks tells_seen

    pub at_u : IsShown n s (told_word u) x
    at_u = shown_looked n s seen u s (22 + page) word x tells_seen at_seen found.looks

    pub clean_u : Clean u x
    clean_u = clean_behind stays v u x x clean to_u (looked_empty seen u s (22 + page) word found.looks (looked_empty v seen s 7 base found.based.looks clean.stands.empty)) at_u

    pub touches_is : touches ≡ touch_by n d page x (Some b) word
    touches_is = based seen base b found.based ∙ ap (touch_by n d page x (Some b)) word_is

    held_by : (k : ℕ) → k ≢ 0 → touch_by n d page x (Some b) k ≡ did x
    held_by zero some = absurd (some refl)
    held_by (suc k) some = ap (λ c. if c then stopped (Numbers refusals.BadRange) x else did x) found.within

    pub held_so : word ≢ 0 → EndsSo {A = Unit {0}} n s (told_word u) touches (Ok tt)
    held_so some = did_so n s (told_word u) touches x (touches_is ∙ held_by word some) at_u

-- ---- behind the walk
-- it is refused
stops_comes : (w : PortValue) (x : Solo) (o : Outcome) (e : Stop) → AccessComes w o (Err e) → Comes (λ v x. ⊥) w x o (Err e)
stops_comes w x o (Refused y) a = record { why = Numbers y; is = a.is; same = refl; none = a.none; owes = nothing a.clean }
stops_comes w x o (Paused y) a = absurd a

-- the frame is taken, and the word names it
module _ (stays : AloneStays) (v : PortValue) (x : Solo) (clean : Clean v x) (d page f : ℕ) where
  abbrev m : Machine
  m = v.post.machine

  abbrev k : ℕ
  k = v.post.vcpu

  abbrev got : Outcome
  got = get_page m d f x

  abbrev naming_it : Solo → Outcome
  naming_it = λ z. did (rename give_page (22 + page) (f + 1) z)

  got_so : (w : PortValue) (a : Result ℕ Stop) → IsEnded a → GotDesc v f d w a → EndsSo m k (told_word w) got a
  got_so w a ended taken =
      got_desc_so m k v f d x clean.stands.machine refl (alone_telling v clean.stands.alone) (alone_orderly v clean.stands.alone) (shown_clean v x clean) w a ended taken

  pub untaken_so : (w : PortValue) (e : Stop) → IsEnded {A = ℕ} (Err e) → GotDesc v f d w (Err e) → EndsSo {A = Unit {0}} m k (told_word w) (then_do got naming_it) (Err e)
  untaken_so w (Paused y) ended taken = absurd ended
  untaken_so w (Refused y) ended taken =
      let e = got_so w (Err (Refused y)) ended taken in
      subst (λ c. EndsSo {A = Unit {0}} m k (told_word w) c (Err (Refused y))) (sym (ap (λ r. next_behind got r naming_it) e.1)) e

  pub touched_so : (y w : PortValue) → page < 16 → GotDesc v f d y (Ok f) → NamesPage y w (22 + page) (Some f) → EndsSo {A = Unit {0}} m k (told_word w) (then_do got naming_it) (Ok tt)
  touched_so y w few taken names =
      let e = got_so y (Ok f) tt taken in
      let came = got_came v y f d _ taken in
      let post = came_post v y came in
      did_so m k (told_word w) (then_do got naming_it) (rename give_page (22 + page) (f + 1) got.left) (ap (λ r. next_behind got r naming_it) e.0)
      (named_so m k y w got.left (22 + page) (Some f) (ap (λ (p : Post). p.machine) post) (ap (λ (p : Post). p.vcpu) post) (came_telling v y came ∙ alone_telling v clean.stands.alone) e.2 (tables (omega arith) (omega (arith, few))) names)

-- ---- the whole
module _ (stays : AloneStays) (v w : PortValue) (x : Solo) (clean : Clean v x) (page : ℕ) (empty : IsEmptyHand w.holdings) where
  abbrev touch : Outcome
  touch = touch_ldt v.post.machine (own_domain v) page x

  from_here : (a : Result (Unit {0}) Stop) → Came v w → EndsSo v.post.machine v.post.vcpu (told_word w) touch a → Comes (λ v x. ⊥) w x touch a
  from_here a came e = comes stays v w x touch a clean came empty e

  -- behind a walk that leads on
  module _ (u z : PortValue) (base : ℕ) (b : LdtBase) (entry : ℕ) (found : FoundPage v u page base b 0) (walks : Walks u z false (touch_address page b) false (Ok entry)) where
    led : IsTouchLed u z x (own_domain v) page b entry
    led = touch_walked stays u z x (clean_u stays v x clean page u base b 0 found) (own_domain v) page b found.within entry walks

    post_u : u.post ≡ v.post
    post_u = came_post v u (to_u stays v x clean page u base b 0 found)

    post_z : z.post ≡ u.post
    post_z = came_post u z (does_came u z _ walks.1)

    abbrev y : Solo
    y = with_frames led.left x

    abbrev frame : ℕ
    frame = frame_of entry

    abbrev rest : Outcome
    rest = then_do (get_page z.post.machine (own_domain v) frame y) (λ s. did (rename give_page (22 + page) (frame + 1) s))

    touch_is : touch ≡ rest
    touch_is =
        touches_is stays v x clean page u base b 0 found
        ∙ sym (ap (λ (p : Post). touch_unnamed p.machine (own_domain v) page b x) post_u)
        ∙ led.is
        ∙ ap (λ (p : Post). take_touched p.machine (own_domain v) page x (Leads frame led.barrier led.left)) (sym post_z)

    other_start : (a : Result (Unit {0}) Stop) → EndsSo z.post.machine z.post.vcpu (told_word w) rest a → Comes (λ v x. ⊥) w y rest a → Comes (λ v x. ⊥) w x rest a
    other_start (Ok done) e c = c
    other_start (Err (Refused r)) e c = c
    other_start (Err (Paused r)) e c = absurd e

    behind_walk : (a : Result (Unit {0}) Stop) → Came z w → EndsSo z.post.machine z.post.vcpu (told_word w) rest a → Comes (λ v x. ⊥) w x touch a
    behind_walk a came e = subst (λ o. Comes (λ v x. ⊥) w x o a) (sym touch_is) (other_start a e (comes stays z w y rest a led.clean came empty e))

  unwalked : (u : PortValue) (base : ℕ) (b : LdtBase) (e : Stop) → FoundPage v u page base b 0 → Walks u w false (touch_address page b) false (Err e) → Comes (λ v x. ⊥) w x touch (Err e)
  unwalked u base b e found walks =
      let post_u = came_post v u (to_u stays v x clean page u base b 0 found) in
      let at : touch ≡ touch_unnamed u.post.machine (own_domain v) page b x = touches_is stays v x clean page u base b 0 found ∙ sym (ap (λ (p : Post). touch_unnamed p.machine (own_domain v) page b x) post_u) in
      subst (λ o. Comes (λ v x. ⊥) w x o (Err e)) (sym at)
      (stops_comes w x (touch_unnamed u.post.machine (own_domain v) page b x) e (touch_unwalked stays u w x (clean_u stays v x clean page u base b 0 found) (own_domain v) page b found.within e walks))

  pub touch_so : (base : ℕ) (frame : Option ℕ) (a : Result (Unit {0}) Stop) → IsEnded a → TouchesLdt v page base frame w a → Comes (λ v x. ⊥) w x touch a
  touch_so base _ _ ended (touching.beyond _ b found past) = from_here (Err (Refused refusals.BadRange)) (moves_came v w (Vcpu v.post.vcpu 7) Load steps.Look None base found.looks) (beyond_so stays v x clean page w base b found past)
  touch_so base _ _ ended (touching.held _ b word found some) = from_here (Ok tt) (to_u stays v x clean page w base b word found) (held_so stays v x clean page w base b word found some)
  touch_so base _ _ ended (touching.unwalked u _ b e found walks) = unwalked u base b e found walks
  touch_so base _ _ ended (touching.untaken u z _ b entry e found walks taken) =
      let l = led u z base b entry found walks in
      behind_walk u z base b entry found walks (Err e) (got_came z w (frame_of entry) (own_domain v) _ taken)
      (untaken_so stays z (with_frames l.left x) l.clean (own_domain v) page (frame_of entry) w e ended taken)
  touch_so base _ _ ended (touching.touched u z y _ b entry found walks taken names) =
      let l = led u z base b entry found walks in
      behind_walk u z base b entry found walks (Ok tt) (came_trans z y w (got_came z y (frame_of entry) (own_domain v) _ taken) (names_came y w (22 + page) (Some (frame_of entry)) names))
      (touched_so stays z (with_frames l.left x) l.clean (own_domain v) page (frame_of entry) y w (page_few page b found.based.valid found.within) taken names)

pub touch_comes : AloneStays → NeitherLostNorBusy → NobodyWaitedFor → (v w : PortValue) (x : Solo) (page : ℕ) (answer : Result (Unit {0}) Stop) → Clean v x → Fair v w → LdtTouched v w page answer →
    Comes (λ v x. ⊥) w x (touch_ldt v.post.machine (own_domain v) page x) answer
touch_comes stays neither nobody v w x page answer clean fair a =
    touch_so stays v w x clean page a.rests.empty a.base a.frame answer (ended stays neither nobody v w x (of_touch (own_domain v) page a.base) answer clean fair refl refl a.stops) a.course
