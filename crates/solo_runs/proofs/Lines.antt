-- The text of a log is a function of what the plain script answers.
use Rattle.std.proofs.Common.{◌≡◌, ℕ, ◌+◌, false, List, [], ◌∷◌, ◌++◌, length, Option, Some, None, refl, sym, ap, ◌∙◌}
use Rattle.std.specs.Prelude.{codes, decimal, map, option_map}
use Rattle.std.specs.List.{flat_map}
use Rattle.std.proofs.lemmas.List.{map-append, same_from_push}
use Rattle.xp_words.specs.KindWords.{kind_fields, kind_read, kind_write}
use Rattle.xp_words.specs.RefWords.{ref_read, ref_write}
use Rattle.xp_words.specs.declared.kind.KindWord.{KindWord}
use Rattle.xp_words.specs.declared.kind.PageType.{PageType}
use Rattle.xp_words.specs.declared.refs.RefWord.{RefWord}
use Rattle.xp_words.specs.declared.refs.RefWord.TheVariants.{Dying, Free, Owned}
use Rattle.xp_words.specs.declared.reply.LogLine.{LogLine}
use Rattle.xp_words.specs.declared.reply.LogLine.TheVariants as lines
use Rattle.xp_words.specs.declared.reply.Refusal.{Refusal}
use Rattle.xp_words.specs.declared.reply.Refusal.TheVariants as refusals
use Rattle.xp_words.specs.declared.reply.Reply.{Reply}
use Rattle.xp_words.proofs.RefLaws.{ref_write-read}
use Rattle.xp_board.specs.Readings.{is_dying, is_dying_in}
use Rattle.xp_board.proofs.RefWords.{read_small}
use Rattle.report_text.specs.LogTexts.{answer_text, log_line, log_lines, refusal_number, refusal_text, step_text}
use Rattle.report_text.specs.WordTexts.{kind_text, ref_by, ref_text, type_text}
use Rattle.table_law.specs.Alone.{CountFull, Cause, NoFrame, OtherType, Reserved, WrongOwner}
use Rattle.table_law.specs.Plain.{Share, share_in, share_of, sober}
use Rattle.table_twins.specs.Answers.{IsCause}
use Rattle.shown_words.specs.Shown.{ShowsSettled}
use Rattle.script_law.specs.Scripts.{Logged}
use Rattle.script_law.specs.Values.{Answer, Called, Frames, Given, IsPinned, IsUnpinned, Left, Line, Numbers, Why}
use Rattle.script_laws.specs.Logged.{AreLines, IsLine, IsLogged, IsReply, IsShown, IsWhyOf}
use Rattle.script_laws.specs.Turns.{IsLog}
use Rattle.script_laws.specs.Turns as turns
use Rattle.solo_runs.proofs.Printing.{kind_same}

-- ---- reference words
pub shown_ref : Option Share → ℕ
shown_ref None = 0
shown_ref (Some s) = ref_write (Owned s.owner s.allocated s.count)

share_read : (r : Option RefWord) (s : Share) → share_in r ≡ Some s → r ≡ Some (Owned s.owner s.allocated s.count)
share_read None s is = absurd cc
share_read (Some (Free stamp)) s is = absurd cc
share_read (Some (Owned owner allocated count)) s is = let e : record { owner = owner; allocated = allocated; count = count } ≡ s = cc in ap (λ (x : Share). Some (Owned x.owner x.allocated x.count)) e
share_read (Some (Dying owner)) s is = absurd cc

-- the word of an owned frame is spelled by its share
pub spelled : (w : ℕ) (s : Share) → share_of w ≡ Some s → w ≡ shown_ref (Some s)
unfolding shown_ref
spelled w s is =
    let read = share_read (ref_read w) s is in
    sym (ref_write-read w (Owned s.owner s.allocated s.count) (read_small w (Owned s.owner s.allocated s.count) read) read).1

-- one that is of no frame that is just being given back prints as the share does
free_text : ref_text 0 ≡ codes "free"
unfolding ref_text ref_read
free_text = refl

text_by : (w : ℕ) (r : Option RefWord) → ref_read w ≡ r → (x : RefWord) → r ≡ Some x → is_dying w ≡ false → (o : Option Share) → share_of w ≡ o → ref_text w ≡ ref_text (shown_ref o)
unfolding ref_text is_dying shown_ref
text_by w (Some (Free stamp)) is x some alive None none = ap (ref_by w) is ∙ sym free_text
text_by w (Some (Dying owner)) is x some alive None none = absurd (let e = sym (ap is_dying_in is) ∙ alive in cc)
text_by w (Some (Owned owner allocated count)) is x some alive None none = absurd (let e = sym (ap share_in is) ∙ none in cc)
text_by w None is x some alive o none = absurd cc
text_by w (Some r) is x some alive (Some s) share = ap ref_text (spelled w s share)

-- ---- refusals
abbrev shown_cause : Cause → Refusal
shown_cause (NoFrame f) = refusals.NoFrame f
shown_cause (WrongOwner f found) = refusals.WrongOwner f (shown_ref found)
shown_cause (CountFull f found) = refusals.CountFull f (shown_ref (Some found))
shown_cause (OtherType f want found) = refusals.OtherType f want (kind_write found)
shown_cause (Reserved f i entry) = refusals.Reserved f i entry

abbrev shown_why : Why → Refusal
shown_why (Frames c) = shown_cause c
shown_why (IsPinned k) = refusals.AlreadyPinned (kind_write k)
shown_why (IsUnpinned k) = refusals.NotPinned (kind_write k)
shown_why (Numbers r) = r

-- both print the same, with the same number
record PrintsAs (r x : Refusal) : Type 0 where
  number : refusal_number r ≡ refusal_number x
  text : refusal_text r ≡ refusal_text x

owner_text : (f w : ℕ) → refusal_text (refusals.WrongOwner f w) ≡ codes "WrongOwner frame=" ++ (decimal f ++ (codes " found=" ++ ref_text w))
unfolding refusal_text
owner_text f w = refl

type_line : (f : ℕ) (want : PageType) (w : ℕ) → refusal_text (refusals.OtherType f want w) ≡ codes "OtherType frame=" ++ (decimal f ++ (codes " want=" ++ (type_text want ++ (codes " found=" ++ kind_text w))))
unfolding refusal_text
type_line f want w = refl

pinned_text : (w : ℕ) → refusal_text (refusals.AlreadyPinned w) ≡ codes "AlreadyPinned found=" ++ kind_text w
unfolding refusal_text
pinned_text w = refl

unpinned_text : (w : ℕ) → refusal_text (refusals.NotPinned w) ≡ codes "NotPinned found=" ++ kind_text w
unfolding refusal_text
unpinned_text w = refl

prints_same : (r x : Refusal) → r ≡ x → PrintsAs r x
prints_same r x is = record { number = ap refusal_number is; text = ap refusal_text is }

-- a kind word prints as its fields without the stamp
kind_prints : (w : ℕ) (found : KindWord) (k : KindWord) → kind_read w ≡ Some k → sober (kind_fields w) ≡ found → kind_text w ≡ kind_text (kind_write found)
kind_prints w found k is kind = sym (kind_same w k is) ∙ ap (λ x. kind_text (kind_write x)) kind

cause_is : (r : Refusal) (c : Cause) → IsCause r c → ShowsSettled r → PrintsAs r (shown_cause c)
cause_is (refusals.NoFrame f) (NoFrame g) is shows = prints_same (refusals.NoFrame f) (refusals.NoFrame g) (ap refusals.NoFrame is)
cause_is (refusals.WrongOwner f w) (WrongOwner g found) is shows =
    record {
      number = refl;
      text = owner_text f w ∙ (ap (λ x. codes "WrongOwner frame=" ++ (decimal x ++ (codes " found=" ++ ref_text w))) is.0
          ∙ (ap (λ x. codes "WrongOwner frame=" ++ (decimal g ++ (codes " found=" ++ x))) (text_by w (ref_read w) refl shows.1.0 shows.1.1 shows.0 found is.1) ∙ sym (owner_text g (shown_ref found))));
    }
cause_is (refusals.CountFull f w) (CountFull g found) is shows = prints_same (refusals.CountFull f w) (refusals.CountFull g (shown_ref (Some found))) (ap (λ x. refusals.CountFull x w) is.0 ∙ ap (refusals.CountFull g) (spelled w found is.1))
cause_is (refusals.OtherType f want w) (OtherType g t found) (frame, type, kind) shows =
    record {
      number = refl;
      text = type_line f want w ∙ (ap (λ x. codes "OtherType frame=" ++ (decimal x ++ (codes " want=" ++ (type_text want ++ (codes " found=" ++ kind_text w))))) frame
          ∙ (ap (λ x. codes "OtherType frame=" ++ (decimal g ++ (codes " want=" ++ (type_text x ++ (codes " found=" ++ kind_text w))))) type
          ∙ (ap (λ x. codes "OtherType frame=" ++ (decimal g ++ (codes " want=" ++ (type_text t ++ (codes " found=" ++ x))))) (kind_prints w found shows.0 shows.1 kind) ∙ sym (type_line g t (kind_write found)))));
    }
cause_is (refusals.Reserved f i w) (Reserved g j entry) (frame, index, word) shows =
    prints_same (refusals.Reserved f i w) (refusals.Reserved g j entry) (ap (λ x. refusals.Reserved x i w) frame ∙ (ap (λ x. refusals.Reserved g x w) index ∙ ap (refusals.Reserved g j) word))
cause_is _ _ is shows = absurd is

why_is : (r : Refusal) (y : Why) → IsShown r y → PrintsAs r (shown_why y)
why_is r (Frames c) (is, shows) = cause_is r c is shows
why_is r (Numbers q) (is, shows) = prints_same r q is
why_is (refusals.AlreadyPinned w) (IsPinned k) (is, shows) = record { number = refl; text = pinned_text w ∙ (ap (λ x. codes "AlreadyPinned found=" ++ x) (kind_prints w k shows.0 shows.1 is) ∙ sym (pinned_text (kind_write k))) }
why_is (refusals.NotPinned w) (IsUnpinned k) (is, shows) = record { number = refl; text = unpinned_text w ∙ (ap (λ x. codes "NotPinned found=" ++ x) (kind_prints w k shows.0 shows.1 is) ∙ sym (unpinned_text (kind_write k))) }
why_is _ _ is = absurd is.0

whys_are : (done value : ℕ) (r : Option Refusal) (y : Option Why) → IsWhyOf r y → answer_text done value r ≡ answer_text done value (option_map shown_why y)
whys_are done value None None is = refl
whys_are done value (Some r) (Some y) is =
    let p = why_is r y is in
    ap (λ k. codes " refused " ++ (decimal k ++ (codes " done " ++ (decimal done ++ (codes " " ++ refusal_text r))))) p.number
    ∙ ap (λ x. codes " refused " ++ (decimal (refusal_number (shown_why y)) ++ (codes " done " ++ (decimal done ++ (codes " " ++ x))))) p.text
whys_are done value None (Some y) is = absurd is
whys_are done value (Some r) None is = absurd is

-- ---- lines
abbrev shown_answer : Answer → Reply
shown_answer a = record { done = a.done; value = a.value; refusal = option_map shown_why a.refusal }

reply_is : (r : Reply) (a : Answer) → IsReply r a → answer_text r.done r.value r.refusal ≡ answer_text a.done a.value (option_map shown_why a.refusal)
reply_is r a is = ap (λ x. answer_text x r.value r.refusal) is.done ∙ (ap (λ x. answer_text a.done x r.refusal) is.value ∙ whys_are a.done a.value r.refusal a.refusal is.refusal)

abbrev shown_line : ℕ → Line → LogLine
shown_line n (Given call extent frame) = lines.Given n call extent frame
shown_line n (Left frame found) = lines.Left n frame (shown_ref (Some found))
shown_line n (Called call answer) = lines.Answer n call (shown_answer answer)

answer_line : (op call : ℕ) (r : Reply) → log_line (lines.Answer op call r) ≡ step_text op call ++ (answer_text r.done r.value r.refusal ++ codes "\n")
unfolding log_line
answer_line op call r = refl

answer_is : (n op call c : ℕ) (r : Reply) (a : Answer) → op ≡ n → call ≡ c → IsReply r a → log_line (lines.Answer op call r) ≡ log_line (lines.Answer n c (shown_answer a))
answer_is n op call c r a same at is =
    answer_line op call r ∙ (ap (λ k. step_text k call ++ (answer_text r.done r.value r.refusal ++ codes "\n")) same
    ∙ (ap (λ k. step_text n k ++ (answer_text r.done r.value r.refusal ++ codes "\n")) at
    ∙ (ap (λ x. step_text n c ++ (x ++ codes "\n")) (reply_is r a is) ∙ sym (answer_line n c (shown_answer a)))))

line_is : (n : ℕ) (x : LogLine) (y : Line) → IsLine n x y → log_line x ≡ log_line (shown_line n y)
line_is n (lines.Given op call extent frame) (Given c e f) (a, b, d, g) = ap log_line (ap (λ k. lines.Given k call extent frame) a ∙ (ap (λ k. lines.Given n k extent frame) b ∙ (ap (λ k. lines.Given n c k frame) d ∙ ap (lines.Given n c e) g)))
line_is n (lines.Left op frame found) (Left f s) (a, b, d) = ap log_line (ap (λ k. lines.Left k frame found) a ∙ (ap (λ k. lines.Left n k found) b ∙ ap (lines.Left n f) (spelled found s d)))
line_is n (lines.Answer op call reply) (Called c answer) (a, b, d) = answer_is n op call c reply answer a b d
line_is n _ _ is = absurd is

lines_are : (n : ℕ) (xs : List LogLine) (ys : List Line) → AreLines n xs ys → map log_line xs ≡ map (λ y. log_line (shown_line n y)) ys
lines_are n [] [] are = refl
lines_are n (x ∷ xs) (y ∷ ys) are = ap (λ z. z ∷ map log_line xs) (line_is n x y are.0) ∙ ap (λ zs. log_line (shown_line n y) ∷ zs) (lines_are n xs ys are.1)
lines_are n [] (y ∷ ys) are = absurd are
lines_are n (x ∷ xs) [] are = absurd are

-- ---- logs
abbrev shown_logged : ℕ → Logged → List (List ℕ)
shown_logged n l = map (λ y. log_line (shown_line n y)) l.lines ++ log_line (lines.Answer n 0 (shown_answer l.answer)) ∷ []

logged_is : (n : ℕ) (made : List LogLine) (l : Logged) → IsLogged n made l → map log_line made ≡ shown_logged n l
logged_is n made l is =
    ap (map log_line) is.is ∙ (map-append log_line is.before (lines.Answer n 0 is.reply ∷ [])
    ∙ (ap (λ xs. xs ++ log_line (lines.Answer n 0 is.reply) ∷ []) (lines_are n is.before l.lines is.lines_are)
    ∙ ap (λ r. map (λ y. log_line (shown_line n y)) l.lines ++ r ∷ []) (answer_is n n 0 0 is.reply l.answer refl refl is.answers)))

no_end : {A : Type 0} (xs : List A) (x : A) → [] ≡ xs ++ x ∷ [] → ⊥
no_end [] x e = cc
no_end (y ∷ xs) x e = cc

logs_by : (x y : List LogLine) (xs ys : List Logged) → IsLog IsLogged x xs → IsLog IsLogged y ys → xs ≡ ys → map log_line x ≡ map log_line y
logs_by _ _ _ _ turns.IsLog.none turns.IsLog.none same = refl
logs_by _ _ _ _ turns.IsLog.none (turns.IsLog.more log made before a first last) same = absurd (no_end before a same)
logs_by _ _ _ _ (turns.IsLog.more log made before a first last) turns.IsLog.none same = absurd (no_end before a (sym same))
logs_by _ _ _ _ (turns.IsLog.more log made before a first last) (turns.IsLog.more log2 made2 before2 a2 first2 last2) same =
    let k = same_from_push before before2 a a2 same in
    map-append log_line log made
    ∙ (ap (λ xs. xs ++ map log_line made) (logs_by log log2 before before2 first first2 k.0)
    ∙ (ap (λ xs. map log_line log2 ++ xs) (logged_is (length before + 1) made a last ∙ (ap (λ (bs : List Logged). shown_logged (length bs + 1) a) k.0 ∙ (ap (shown_logged (length before2 + 1)) k.1 ∙ sym (logged_is (length before2 + 1) made2 a2 last2))))
    ∙ sym (map-append log_line log2 made2)))

flat_same : (xs ys : List LogLine) → map log_line xs ≡ map log_line ys → flat_map log_line xs ≡ flat_map log_line ys
flat_same [] [] same = refl
flat_same [] (y ∷ ys) same = absurd cc
flat_same (x ∷ xs) [] same = absurd cc
flat_same (x ∷ xs) (y ∷ ys) same =
    let first : log_line x ≡ log_line y = cc in
    let more : map log_line xs ≡ map log_line ys = cc in
    ap (λ z. z ++ flat_map log_line xs) first ∙ ap (λ z. log_line y ++ z) (flat_same xs ys more)

-- two logs of the same answers have one text
pub logs_same : (x y : List LogLine) (answers : List Logged) → IsLog IsLogged x answers → IsLog IsLogged y answers → log_lines x ≡ log_lines y
unfolding log_lines
logs_same x y answers a b = flat_same x y (logs_by x y answers answers a b refl)
