-- A frame is looked at under a reference that is taken first: what is in hand, what the word found tells, and the steps.
use Rattle.std.proofs.Common.{true, ◌≡◌, ℕ, ◌<◌, ◌∷◌, List, [], Some, None, Ok, is_some, IsTrue, refl, sym, ap, ◌∙◌, subst}
use Rattle.flush_words.proofs.Shared.{may_held}
use Rattle.xp_board.specs.declared.holdings.Holdings.{Holdings}
use Rattle.xp_words.specs.KindWords.{is_kind, kind_fields, kind_read, kind_write}
use Rattle.xp_words.specs.Places.{sizes_of}
use Rattle.xp_words.specs.declared.kind.KindWord.{KindWord}
use Rattle.xp_words.specs.declared.place.Place.TheVariants.{Kind}
use Rattle.xp_words.specs.declared.reply.Stop.{Stop}
use Rattle.xp_board.specs.declared.holdings.OwnerFound.TheVariants as owners
use Rattle.xp_board.specs.declared.holdings.Reference.{Reference}
use Rattle.xp_board.specs.declared.step.Act.TheVariants.{Load}
use Rattle.xp_board.specs.declared.step.StepKind.TheVariants as kinds
use Rattle.xp_board.specs.Knowledge.{knows_owner}
use Rattle.xp_board.specs.Spelling.{is_kind_in}
use Rattle.xp_board.specs.Told.{Post, PortValue, is_telling, told_word}
use Rattle.xp_board.proofs.KindForms.{fields_of}
use Rattle.step_maker.specs.Holds.{Holds, Same, still, MayWork}
use Rattle.step_maker.specs.Moves.{Came, Met, Moves}
use Rattle.step_maker.proofs.Coming.{met_after, met_before, moment_of, moves_met}
use Rattle.step_maker.specs.Answers.{Deed, Serves, Stops}
use Rattle.step_maker.specs.Asked.{Asked, Request, Within, of, of_back, of_frame}
use Rattle.step_maker.specs.Finding.{Finding, FoundWith}
use Rattle.step_maker.proofs.Piecing.{serves_back, serves_came, serves_step, serves_within, stops_within, within_frame}
use Rattle.frame_words.specs.Freeing.{Puts, gave}
use Rattle.frame_words.specs.Refs.{Gets, took}
use Rattle.frame_words.specs.Plain.{TwinGet, put}
use Rattle.step_maker.specs.Plain.{Leaves}
use Rattle.table_entries.specs.Acquiring.{GaveRef, GotRef}
use Rattle.kind_words.proofs.KindFacts.{kind_found, kind_is_some, read_is}
use Rattle.kind_words.proofs.Leaving.{without_newest}
use Rattle.table_entries.proofs.HandOwners.{ref_knows_its}

-- ---- the reference, for a call that asks the frame
module _ (v : PortValue) (f d : ℕ) (r : Request) (asks : (F : Finding) → Asked v.post.machine v.post.vcpu r F f d None) (w : PortValue) where
  reference : Within v.post.machine v.post.vcpu (of_frame f d None) (Met v w) r (Met v w)
  reference = within_frame v.post.machine v.post.vcpu f d None r (Met v w) (Met v w) (λ m x. x) (asks (Met v w))

  pub referred : (ds : List Deed) → Serves v w (of_frame f d None) ds → Serves v w r ds
  referred ds a = serves_within v w (of_frame f d None) r ds reference a

  pub not_referred : (e : Stop) → Stops v w (of_frame f d None) e → Stops v w r e
  not_referred e a = stops_within v w (of_frame f d None) r e reference a

-- ---- the look. The frame g that was answered is frame f that was asked.
pub record Looked (v a b : PortValue) (f d g x : ℕ) (k : KindWord) : Type 0 where
  pub at : g ≡ f
  pub inside : g < v.post.machine.frames
  pub taken : Holds v a (took g d v.holdings)
  pub serves : Serves v a (of_frame f d None) []
  pub got : GotRef v a f d (Ok f)
  pub look : Moves a b (Kind g) Load kinds.Look None x
  pub same : Same a b
  pub read : kind_read x ≡ Some k

-- and given back
pub record GivenBack (b c : PortValue) (g : ℕ) : Type 0 where
  pub serves : Serves b c (of_back g) []
  pub hand : Holds b c (gave g b.holdings)
  pub puts : GaveRef b c g

pub inside_by : (v a : PortValue) (d g : ℕ) → g < v.post.machine.frames → Holds v a (took g d v.holdings) → g < a.post.machine.frames
inside_by v a d g inside taken = subst (λ (p : Post). g < p.machine.frames) (sym (ap (λ (q : PortValue). q.post) taken)) inside

-- over one step the frame is still one of the machine's
pub held_inside : (b x : PortValue) (h : Holdings) {g : ℕ} → Holds b x h → g < b.post.machine.frames → g < x.post.machine.frames
held_inside b x h {g} hand low = subst (λ (p : Post). g < p.machine.frames) (sym (ap (λ (q : PortValue). q.post) hand)) low

pub read_some : (v : PortValue) (d : ℕ) {a b : PortValue} {g x : ℕ} → g < v.post.machine.frames → Holds v a (took g d v.holdings) → Moves a b (Kind g) Load kinds.Look None x → IsTrue (is_some (kind_read x))
read_some v d {a} {b} {g} {x} inside taken look = kind_is_some a.post.machine a.post.vcpu a.holdings g x (inside_by v a d g inside taken) look.finds

pub seen : (v : PortValue) (d : ℕ) {a b : PortValue} {f g x : ℕ} {k : KindWord} → (g ≡ f) × (g < v.post.machine.frames) → Serves v a (of_frame f d None) [] → Holds v a (took g d v.holdings) → Gets v a f d (Ok f) → TwinGet v a f d (Ok f) →
    Moves a b (Kind g) Load kinds.Look None x → Same a b → kind_read x ≡ Some k → Looked v a b f d g x k
seen v d inside serves taken found plain look same read =
    record { at = inside.0; inside = inside.1; taken = taken; serves = serves; got = record { found = found; plain = plain; stops = tt }; look = look; same = same; read = read }

pub gave_back : {b c : PortValue} {g : ℕ} → Serves b c (of_back g) [] → Holds b c (gave g b.holdings) → Puts b c g → (is_telling b ≡ true → Leaves c (put g (told_word b))) → GivenBack b c g
gave_back serves hand puts plain = record { serves = serves; hand = hand; puts = record { found = puts; plain = plain } }

module _ {v a b : PortValue} {f d g x : ℕ} {k : KindWord} (saw : Looked v a b f d g x k) where
  pub look_there : Moves a b (Kind f) Load kinds.Look None x
  look_there = subst (λ k. Moves a b (Kind k) Load kinds.Look None x) saw.at saw.look

  pub came_a : Came v a
  came_a = serves_came v a (of_frame f d None) [] saw.serves

  abbrev lent_ref : Reference
  lent_ref = record { frame = g; owner = owners.Of d }

  -- whose the frame is, is known
  owned : (c : PortValue) → Holds v c (took g d v.holdings) → IsTrue (knows_owner (sizes_of v.post.machine) f d c.holdings)
  owned c holds =
      subst (λ k. IsTrue (knows_owner (sizes_of v.post.machine) k d c.holdings)) saw.at
      (ref_knows_its (sizes_of v.post.machine) d v.holdings c.holdings lent_ref refl (ap (λ (q : PortValue). q.holdings.refs) holds) (ap (λ (q : PortValue). q.holdings.typed) holds))

  pub owner_known : IsTrue (knows_owner (sizes_of v.post.machine) f d a.holdings)
  owner_known = owned a saw.taken

  pub owner_still : IsTrue (knows_owner (sizes_of v.post.machine) f d b.holdings)
  owner_still = owned b (saw.same ∙ saw.taken)

  -- the word that was found
  inside_a : f < a.post.machine.frames
  inside_a = subst (λ k. k < a.post.machine.frames) saw.at (inside_by v a d g saw.inside saw.taken)

  pub inside_b : f < b.post.machine.frames
  inside_b = subst (λ (p : Post). f < p.machine.frames) (sym (ap (λ (q : PortValue). q.post) saw.same)) inside_a

  pub looked_inside : g < b.post.machine.frames
  looked_inside = subst (λ k. k < b.post.machine.frames) (sym saw.at) inside_b

  pub looked_may : MayWork v → MayWork b
  looked_may may = may_held v b (took g d v.holdings) (saw.same ∙ saw.taken) refl refl may

  pub looked_room : v.holdings.old0 ≡ Some 0 → b.holdings.old0 ≡ Some 0
  looked_room room = ap (λ (q : PortValue). q.holdings.old0) (saw.same ∙ saw.taken) ∙ room

  pub fields : kind_fields x ≡ k
  fields = fields_of x k saw.read

  pub spelled : IsTrue (is_kind k)
  spelled = (read_is x k saw.read).0

  pub written : kind_write k ≡ x
  written = sym (read_is x k saw.read).1

  pub fits : IsTrue (is_kind_in b.post.machine (Some k))
  fits =
      let is = kind_found a.post.machine a.post.vcpu a.holdings f x inside_a look_there.finds in
      subst (λ (p : Post). IsTrue (is_kind_in p.machine (Some k))) (sym (ap (λ (q : PortValue). q.post) saw.same)) (subst (λ o. IsTrue (is_kind_in a.post.machine o)) (sym is.read ∙ saw.read) is.fits)

  pub found_with : (w : PortValue) → Came b w → FoundWith (Met v w) (Kind f) x a.holdings
  unfolding moment_of
  found_with w after =
      record {
        moment = moment_of a (Kind f) Load kinds.Look None x;
        was = met_after v a w _ came_a (met_before a b w _ (moves_met a b (Kind f) Load kinds.Look None x look_there) after);
        place = refl;
        word = refl;
        hand = refl;
      }

  -- ---- its steps
  module _ (r : Request) (asks : (F : Finding) → Asked v.post.machine v.post.vcpu r F f d None) where
    pub looked : Serves v b r []
    looked = serves_step v a b r [] (Kind f) Load kinds.Look None x (referred v f d r asks a [] saw.serves) look_there tt

    pub put_back : {c : PortValue} → GivenBack b c g → Serves v c r []
    put_back {c} back = serves_back v b c r [] [] looked f (of d None (asks (Met v c))) (subst (λ k. Serves b c (of_back k) []) saw.at back.serves)

  -- the reference is given back
  module _ {c : PortValue} (back : GivenBack b c g) where
    pub given_back : Same v c
    given_back =
        back.hand ∙ ap (λ (q : PortValue). still (record q { holdings = gave g q.holdings })) (saw.same ∙ saw.taken)
        ∙ ap (λ (rs : List Reference). still (record v { holdings = record v.holdings { refs = rs } })) (without_newest (λ (y : Reference). y.frame) g lent_ref v.holdings.refs (lent_ref ∷ v.holdings.refs) refl refl)

    pub came_back : Came b c
    came_back = serves_came b c (of_back g) [] back.serves

    pub gave_ref : GaveRef b c f
    gave_ref = subst (λ k. GaveRef b c k) saw.at back.puts
