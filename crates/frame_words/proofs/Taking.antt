-- A reference is taken: what its steps show, and what it leaves.
use Rattle.std.proofs.Common.{◌≡◌, ◌≢◌, ℕ, ◌+◌, ◌<◌, ◌≤◌, ◌^◌, ◌==◌, ◌&&◌, nat_le, if◌then◌else◌, Bool, true, false, List, [], ◌∷◌, ◌++◌, length, Option, Some, None, IsTrue, refl, sym, ap, ◌∙◌, subst, arith, inl}
use Rattle.std.proofs.lemmas.Bool.Decides.{nat_tests}
use Rattle.xp_words.specs.Machine.{Machine}
use Rattle.xp_words.specs.declared.place.Place.TheVariants.{Refs}
use Rattle.xp_words.specs.Places.{number, sizes_of, place_at}
use Rattle.xp_words.specs.RefWords.{ref_read, IsRef, bit}
use Rattle.xp_words.specs.declared.kind.PageType.{PageType}
use Rattle.xp_words.specs.declared.refs.RefWord.TheVariants.{Owned}
use Rattle.xp_words.specs.declared.reply.Refusal.{Refusal}
use Rattle.xp_words.specs.declared.reply.Refusal.TheVariants.{NoFrame, WrongOwner, CountFull}
use Rattle.xp_words.specs.declared.reply.Pause.TheVariants.{Lost}
use Rattle.xp_words.specs.declared.reply.Stop.TheVariants.{Refused, Paused}
use Rattle.xp_words.proofs.PlaceLaws.{place_back}
use Rattle.xp_words.proofs.RefLaws.{ref_read-write, ref_write-read}
use Rattle.xp_words.proofs.Shared.{eq_false as when_ne}
use Rattle.xp_board.specs.declared.step.Act.TheVariants.{Load, Cas}
use Rattle.xp_board.specs.declared.step.StepKind.TheVariants as kinds
use Rattle.xp_board.specs.declared.holdings.Holdings.{Holdings}
use Rattle.xp_board.specs.declared.holdings.Reference.{Reference}
use Rattle.xp_board.specs.declared.holdings.Made.{Made}
use Rattle.xp_board.specs.Acts.{left_by}
use Rattle.xp_board.specs.Steps.{is_at, is_same, last_since}
use Rattle.xp_board.specs.Readings.{allocated_mark, is_free}
use Rattle.xp_board.specs.declared.holdings.OwnerFound.TheVariants as owners
use Rattle.xp_board.specs.declared.holdings.Work.{Work}
use Rattle.xp_board.specs.Hands.{refs_to, work_on}
use Rattle.xp_board.specs.Lists.{EachOf, first_by, times_by, one_at}
use Rattle.xp_board.specs.RefSteps.{is_closing_on}
use Rattle.xp_board.specs.Sound.{WorkAgrees}
use Rattle.xp_board.specs.Spelling.{IsSpelling}
use Rattle.xp_board.specs.Told.{PortValue, Finds}
use Rattle.xp_board.proofs.Sums.{one_at-same, when_eq}
use Rattle.xp_board.proofs.Numbers.{refs_there}
use Rattle.xp_board.proofs.PlaceTests.{equal_by}
use Rattle.step_maker.specs.Holds.{Holds, Same, still}
use Rattle.step_maker.specs.Moves.{Moves, Met, step_at}
use Rattle.step_maker.proofs.Coming.{moment_of, moves_met, moves_came, met_before, met_after}
use Rattle.step_maker.specs.Answers.{Serves, Stops, Deed, Returns, Misses, missed_at, deeds_by, exchanged, only_if}
use Rattle.step_maker.specs.Asked.{Request, of_frame, of_back, IsFor, IsAsked, of, back, named}
use Rattle.step_maker.specs.Finding.{Finding, FoundWith}
use Rattle.step_maker.specs.Reasons.{Reason, IsRefChange}
use Rattle.step_maker.proofs.Piecing.{serves_step, moves_serves, no_more}
use Rattle.step_maker.proofs.Changing.{moves_found}
use Rattle.frame_words.specs.declared.rows.Open.{Open}
use Rattle.frame_words.specs.Refs.{open_word, raised_word, IsOpen, took, MayPut, RefusesWord}

-- ---- what a look at a reference word tells
pub domain_known : (n : Machine) (s : ℕ) (h : Holdings) (f found owner count : ℕ) (allocated : Bool) → f < n.frames → Finds n s h (Refs f) found → ref_read found ≡ Some (Owned owner allocated count) →
    owner < length n.page_limit
unfolding IsSpelling
domain_known n s h f found owner count allocated frame finds read =
    let spelled = subst (λ w. IsSpelling n (Refs f) w) finds.word (finds.sound.spelled.spelled (Refs f) (refs_there (sizes_of n) f frame)) in
    let is = rw read at spelled in
    grind (arith, nat_tests)

least : (k : ℕ) → nat_le k k ≡ true
least k = grind (arith, nat_tests)

pub just_looked : (v u : PortValue) (f word : ℕ) → Moves v u (Refs f) Load kinds.Look None word → last_since (sizes_of v.post.machine) (length v.holdings.steps) (Refs f) u.holdings.steps ≡ Some word
unfolding last_since left_by
just_looked v u f word m =
    let z = sizes_of v.post.machine in
    let x : Made = record { step = step_at v.post.machine (Refs f) Load kinds.Look None; found = word } in
    let at : is_at z (Refs f) x ≡ true = ap (λ p. is_same p (Refs f)) (place_back z (Refs f) m.may.place) ∙ when_eq f f refl in
    ap (λ (q : PortValue). last_since z (length v.holdings.steps) (Refs f) q.holdings.steps) m.to
    ∙ ap (λ b. if b then (if is_at z (Refs f) x then Some word else last_since z (length v.holdings.steps) (Refs f) v.holdings.steps) else None) (least (length v.holdings.steps))
    ∙ ap (λ b. if b then Some word else last_since z (length v.holdings.steps) (Refs f) v.holdings.steps) at

none_by : (b : Bool) (d : Deed) → only_if ((bit b == 1) && (bit b == 0)) d ≡ []
none_by true d = refl
none_by false d = refl

-- counting up is no deed: the allocated mark stays. Nor does it claim.
module _ (f : ℕ) (o : Open) (is : IsRef (Owned o.owner o.allocated o.count)) (below : o.count + 1 < 2 ^ 26) (h : Holdings) where
  raise_is_no_deed : deeds_by (Refs f) (Cas (open_word o) (raised_word o)) kinds.Ref (open_word o) h ≡ []
  unfolding allocated_mark IsRef
  raise_is_no_deed =
      let before = ref_read-write (Owned o.owner o.allocated o.count) is in
      let next = ref_read-write (Owned o.owner o.allocated (o.count + 1)) (is.0, omega arith, below) in
      rw (when_eq (open_word o) (open_word o) refl, before, next) (none_by o.allocated (Returns f))

  raise_changes : (r : Request) → IsRefChange r (Cas (open_word o) (raised_word o))
  unfolding is_free
  raise_changes r free = absurd (let off : is_free (open_word o) ≡ false = rw (ref_read-write (Owned o.owner o.allocated o.count) is) refl in cc)

-- ---- what is asked
for_itself : (want : Option PageType) → IsFor want want
for_itself None = tt
for_itself (Some t) = refl

pub names_itself : (n : Machine) (s f owner : ℕ) (want : _) (F : Finding) → IsAsked n s (of_frame f owner want) F f
names_itself n s f owner want F = of owner want (named (when_eq f f refl) refl (for_itself want))

pub backs_itself : (n : Machine) (s f : ℕ) (F : Finding) → IsAsked n s (of_back f) F f
backs_itself n s f F = back (when_eq f f refl)

-- ---- refused
pub no_frame : (v : PortValue) (f owner : ℕ) → v.post.machine.frames ≤ f → Stops v v (of_frame f owner None) (Refused (NoFrame f))
unfolding Stops
no_frame v f owner past = (names_itself _ _ f owner None _, past)

module _ (v u : PortValue) (f owner word : ℕ) (look : Moves v u (Refs f) Load kinds.Look None word) where
  found_with : FoundWith (Met v u) (Refs f) word v.holdings
  unfolding moment_of
  found_with = record { moment = moment_of v (Refs f) Load kinds.Look None word; was = moves_met v u _ _ _ _ _ look; place = refl; word = refl; hand = refl }

  pub refused : (x : Refusal) → RefusesWord f owner v.post.machine.limit word x → Stops v u (of_frame f owner None) (Refused x)
  unfolding Stops
  refused (WrongOwner g found) (is, at, why) = rw (is, at) (owner, None, named (when_eq f f refl) refl tt, moves_found v u _ _ _ _ word look, inl why)
  refused (CountFull g found) (is, at, why) = rw (is, at) (owner, None, v.holdings, named (when_eq f f refl) refl tt, found_with, why, no_more (of_frame f owner None) v.holdings f)
  refused _ why = absurd why

  pub looked : Serves v u (of_frame f owner None) []
  looked = moves_serves v u (of_frame f owner None) _ _ _ _ _ look tt

  -- ---- taken
  pub word_law : (o : Open) → word < 2 ^ 64 → ref_read word ≡ Some (Owned o.owner o.allocated o.count) → (IsRef (Owned o.owner o.allocated o.count)) × (open_word o ≡ word)
  word_law o small read = ref_write-read word (Owned o.owner o.allocated o.count) small read

  some_count : (o : Open) → IsRef (Owned o.owner o.allocated o.count) → 0 < o.count
  unfolding IsRef
  some_count o is = is.1

  pub opened : (o : Open) → f < v.post.machine.frames → Same v u → word < 2 ^ 64 → ref_read word ≡ Some (Owned o.owner o.allocated o.count) → o.count < v.post.machine.limit → IsOpen u.post.machine o
  opened o frame same small read low =
      let known = domain_known v.post.machine v.post.vcpu v.holdings f word o.owner o.count o.allocated frame look.finds read in
      subst (λ (q : PortValue). IsOpen q.post.machine o) (sym same) (record { owner = known; some = some_count o (word_law o small read).0; below = low })

  module _ (w : PortValue) (o : Open) (small : word < 2 ^ 64) (read : ref_read word ≡ Some (Owned o.owner o.allocated o.count)) (below : o.count + 1 < 2 ^ 26) (found : ℕ)
      (raise : Moves u w (Refs f) (Cas (open_word o) (raised_word o)) kinds.Ref None found) where
    asks : (F : Finding) → Reason v.post.machine v.post.vcpu (of_frame f owner None) F (Refs f) (Cas (open_word o) (raised_word o)) found u.holdings
    asks F = (names_itself _ _ f owner None F, raise_changes f o (word_law o small read).0 below u.holdings (of_frame f owner None))

    tried : Serves v w (of_frame f owner None) (deeds_by (Refs f) (Cas (open_word o) (raised_word o)) kinds.Ref found u.holdings ++ [])
    tried = serves_step v u w (of_frame f owner None) [] _ _ _ _ _ looked raise (asks _)

    pub taken : found ≡ open_word o → Serves v w (of_frame f owner None) []
    taken at =
        subst (λ ds. Serves v w (of_frame f owner None) (ds ++ []))
        (ap (λ x. deeds_by (Refs f) (Cas (open_word o) (raised_word o)) kinds.Ref x u.holdings) at ∙ raise_is_no_deed f o (word_law o small read).0 below u.holdings) tried

    pub missed_there : (place : ℕ) → place ≡ number (sizes_of v.post.machine) (Refs f) → found ≢ open_word o → Serves v w (of_frame f owner None) (missed_at (place_at (sizes_of v.post.machine) place))
    missed_there place at off =
        let is : place_at (sizes_of v.post.machine) place ≡ Refs f = ap (λ i. place_at (sizes_of v.post.machine) i) at ∙ place_back (sizes_of v.post.machine) (Refs f) look.may.place in
        rw is (subst (λ b. Serves v w (of_frame f owner None) ((if b then exchanged (Refs f) (open_word o) (raised_word o) else (Misses (Refs f) ∷ [])) ++ [])) (when_ne found (open_word o) off) tried)

    pub lost : (place : ℕ) → place ≡ number (sizes_of v.post.machine) (Refs f) → found ≢ open_word o → Stops v w (of_frame f owner None) (Paused (Lost place word found))
    unfolding Stops moment_of
    lost place at off =
        let is = (word_law o small read).1 in
        let asks_word = subst (λ e. Reason v.post.machine v.post.vcpu (of_frame f owner None) (Met v w) (Refs f) (Cas e (raised_word o)) found u.holdings) is (asks (Met v w)) in (
          Refs f,
          at,
          (λ e. cc),
          (
            record {
              before = moment_of v (Refs f) Load kinds.Look None word;
              exchange = moment_of u (Refs f) (Cas (open_word o) (raised_word o)) kinds.Ref None found;
              new = raised_word o;
              was_before = met_before v u w _ (moves_met v u _ _ _ _ _ look) (moves_came u w _ _ _ _ _ raise);
              was_exchange = met_after v u w _ (moves_came v u _ _ _ _ _ look) (moves_met u w _ _ _ _ _ raise);
              place_before = refl;
              place = refl;
              act = ap (λ y. Cas y (raised_word o)) is;
              word = refl;
              last = just_looked v u f word look;
              other = λ e. off (e ∙ sym is);
            },
            asks_word,
          ),
        )

-- a frame that is closing in the hand keeps a reference beside the new one
closing_head : (b : Bool) (f : ℕ) (h : Holdings) (e : Work) (o : Option Work) → (e.frame == f) ≡ b → WorkAgrees h e → (IsTrue (is_closing_on o) → 0 < refs_to f h.refs) →
    IsTrue (is_closing_on (if b then Some e else o)) → 0 < refs_to f h.refs
closing_head true f h e o is agrees rest closing = subst (λ g. 0 < refs_to g h.refs) (equal_by e.frame f is) (agrees.closing closing)
closing_head false f h e o is agrees rest closing = rest closing

closing_by : (f : ℕ) (h : Holdings) (works : List Work) → EachOf (WorkAgrees h) works → IsTrue (is_closing_on (work_on f works)) → 0 < refs_to f h.refs
unfolding EachOf first_by
closing_by f h [] all closing = absurd (cc)
closing_by f h (e ∷ es) all closing = closing_head (e.frame == f) f h e (work_on f es) refl all.0 (closing_by f h es all.1) closing

more_held : (f : ℕ) (e : Reference) (xs : List Reference) → e.frame ≡ f → refs_to f (e ∷ xs) ≡ refs_to f xs + 1
unfolding times_by
more_held f e xs is = let one : one_at f e.frame ≡ 1 = ap (λ g. one_at f g) is ∙ one_at-same f in omega (arith, one)

pub taken_gives : (v u w : PortValue) (f found owner : ℕ) → Moves v u (Refs f) Load kinds.Look None found → Same v u → Holds u w (took f owner u.holdings) → MayPut f w.holdings
taken_gives v u w f found owner look same holds =
    let e : Reference = record { frame = f; owner = owners.Of owner } in
    let refs : w.holdings.refs ≡ e ∷ v.holdings.refs = ap (λ (q : PortValue). q.holdings.refs) (holds ∙ ap (λ (q : PortValue). still (record q { holdings = took f owner q.holdings })) same) in
    let works : w.holdings.works ≡ v.holdings.works = ap (λ (q : PortValue). q.holdings.works) holds ∙ ap (λ (q : PortValue). q.holdings.works) same in
    let agree = subst (λ (h : Holdings). EachOf (WorkAgrees h) h.works) look.finds.mine (look.finds.sound.works v.post.vcpu look.finds.real) in
    let more = more_held f e v.holdings.refs refl in
    record {
      held = rw refs (omega (arith, more));
      spares = λ closing. rw refs (let some = closing_by f v.holdings v.holdings.works agree (subst (λ (ws : List Work). IsTrue (is_closing_on (work_on f ws))) works closing) in omega (arith, more, some));
    }
