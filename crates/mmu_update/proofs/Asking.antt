-- What the calls on the frame of an entry ask is within what is asked of the whole, for any request that covers an exchange of that entry.
use Rattle.std.proofs.Common.{◌≡◌, ℕ, ◌==◌, Bool, true, Option, Some, None, Result, IsTrue, inl, inr, refl, rules, subst, sym}
use Rattle.xp_words.specs.Machine.{Machine}
use Rattle.xp_words.specs.declared.kind.PageType.{PageType}
use Rattle.xp_words.specs.declared.reply.Stop.{Stop}
use Rattle.xp_board.proofs.Sums.{when_eq}
use Rattle.step_maker.specs.Moves.{Moment}
use Rattle.step_maker.specs.Asked.{IsAsked, IsFor, Request, Within, named, of, of_frame}
use Rattle.step_maker.specs.Finding.{Finding}
use Rattle.step_maker.specs.Rising.{Grows, IsOfSame, NeedsOwners, Rises}
use Rattle.step_maker.proofs.Grown.{grown_by, grown_where, rises_self, risen}
use Rattle.step_maker.proofs.Piecing.{same_frame as frame_is}
use Rattle.entry_exchange.specs.Asking.{may_rise, of_exchange}
use Rattle.foreign_map.specs.declared.owners.Owners.{Owners}
use Rattle.mmu_update.specs.Course.{entry_update}
use Rattle.mmu_update.specs.Elements.{update_request}
use Rattle.mmu_update.specs.Addresses.{of_at}
use Rattle.tlb_walks.specs.Addresses.{index_of}
use Rattle.mmu_update.specs.declared.element.Element.TheVariants.{Write}

pub for_none : (a b : Option PageType) → IsFor a None → IsFor a b
for_none None b c = tt
for_none (Some t) b c = absurd (let d = c in cc)

-- a call on the frame alone, which may mark it
abbrev pub of_call : Owners → ℕ → Option PageType → Bool → Request
of_call o f want marks = record (of_frame f o.tables want) { locks = marks }

-- It names the frame, and asks what an exchange of that entry of it asks.
pub record Covers (r : Request) (o : Owners) (f i word : ℕ) (answer : Result (Unit {0}) Stop) : Type 0 where
  pub names : IsTrue (r.names f)
  pub owner : r.owner ≡ o.tables
  pub pages_of : r.pages_of ≡ o.frames
  pub entries : r.entries ≡ true
  pub index : r.index ≡ Some i
  pub new_word : r.new_word ≡ Some word
  pub locks : r.locks ≡ true
  pub rose : r.rose ≡ may_rise answer

pub write_covers : (o : Owners) (f i word : ℕ) (keep : Bool) (answer : Result (Unit {0}) Stop) → Covers (update_request o (Write f i word keep) answer) o f i word answer
write_covers o f i word keep answer = record { names = when_eq f f refl; owner = refl; pages_of = refl; entries = refl; index = refl; new_word = refl; locks = refl; rose = refl }

pub at_covers : (o : Owners) (va table word : ℕ) (answer : Result (Unit {0}) Stop) → Covers (of_at o va table word answer) o table (index_of va 1) word answer
at_covers o va table word answer = record { names = when_eq table table refl; owner = refl; pages_of = refl; entries = refl; index = refl; new_word = refl; locks = refl; rose = refl }

module _ (n : Machine) (s : ℕ) {r : Request} {o : Owners} {f i word : ℕ} {answer : Result (Unit {0}) Stop} (covers : Covers r o f i word answer) where
  pub names_frame : (G : Finding) → IsAsked n s r G f
  names_frame G = of o.tables None (named covers.names (sym covers.owner) tt)

  into : (g : ℕ) → IsTrue (g == f) → IsTrue (r.names g)
  into g here = subst (λ k. IsTrue (r.names k)) (sym (frame_is g f here)) covers.names

  module _ (F G : Finding) (more : (m : Moment) → F m → G m) where
    module _ (want : Option PageType) (marks : Bool) (is : (k : Option PageType) → IsFor k want → IsFor k r.want) where
      -- no entry asks of it
      no_owners : NeedsOwners (of_call o f want marks) → IsOfSame (of_call o f want marks) r
      no_owners (inl a) = absurd cc
      no_owners (inr (inl a)) = absurd cc
      no_owners (inr (inr (inl a))) = absurd cc
      no_owners (inr (inr (inr a))) = absurd (let b = a.1 in cc)

      call_grows : Grows (of_call o f want marks) r
      call_grows = let marking : Rises marks r.locks = subst (λ b. Rises marks b) (sym covers.locks) (risen marks) in search (rules, marking)

      pub within_call : Within n s (of_call o f want marks) F r G
      within_call = grown_where n s (of_call o f want marks) r F G more call_grows no_owners (λ g here k less. named (into g here) (sym covers.owner) (is k less)) (λ any g here. into g here) (λ g none. absurd cc)

    -- an exchange of the entry
    module _ (level : ℕ) (keep : Bool) where
      abbrev inner : Request
      inner = of_exchange (entry_update f level i word keep) o answer

      exchange_grows : Grows inner r
      exchange_grows =
          let entries = covers.entries in
          let index = covers.index in
          let new_word = covers.new_word in
          let locks = covers.locks in
          let gate : Rises (may_rise answer) r.rose = subst (λ b. Rises (may_rise answer) b) (sym covers.rose) (rises_self (may_rise answer)) in
          search (rules, entries, index, new_word, locks, gate)

      pub within_exchange : Within n s inner F r G
      within_exchange =
          grown_by n s inner r F G more exchange_grows (record { owner = sym covers.owner; pages_of = sym covers.pages_of }) (λ g here k less. named (into g here) (sym covers.owner) (for_none k r.want less))
          (λ any g here. into g here) (λ g none. absurd cc)
