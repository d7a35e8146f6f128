-- Frames taken and given back, as laws say it.
use Rattle.std.proofs.Common.{◌≡◌, ◌<◌, ℕ, true, Result, refl, sym, subst}
use Rattle.xp_words.specs.Machine.{IsMachine, Machine}
use Rattle.xp_words.specs.declared.kind.PageType.TheVariants.{Desc, Writable}
use Rattle.xp_words.specs.declared.reply.Stop.{Stop}
use Rattle.xp_board.specs.Told.{PortValue, is_telling, told_word}
use Rattle.course_laws.specs.Courses.{IsOrderly}
use Rattle.desc_pages.specs.Pages.{GotDesc}
use Rattle.frame_types.specs.Found.{DropsPlain}
use Rattle.table_entries.specs.Acquiring.{GaveType}
use Rattle.table_law.specs.Alone.{alone}
use Rattle.table_law.specs.Plain.{Describes, Plain}
use Rattle.table_law.specs.Release.{let_go}
use Rattle.writable_pages.specs.Pages.{GotPage}
use Rattle.script_law.specs.Pages.{get_page, give_page}
use Rattle.script_law.specs.Values.{Solo, with_frames}
use Rattle.solo_pages.specs.Shown.{IsShown, AreWhole, SameBeside}
use Rattle.solo_pages.specs.Ends.{EndsAs, EndsSo, IsEnded}
use Rattle.solo_pages.proofs.Coming.{shown_stays}
use Rattle.solo_pages.proofs.Describing.{got_desc_so}
use Rattle.solo_pages.proofs.Giving.{gave_back, given, given_whole, let_go_is}
use Rattle.solo_pages.proofs.Memory.{got_memory}
use Rattle.solo_pages.proofs.Whole.{alone_whole}

-- ---- ordinary memory
pub memory_taken : (n : Machine) (v w : PortValue) (f owner : ℕ) (p : Plain) (answer : Result ℕ Stop) → IsMachine n → v.post.machine ≡ n → is_telling v ≡ true → Describes n (told_word v) p → AreWhole n p → IsOrderly n (told_word v) →
    IsEnded answer → GotPage v f owner w answer → EndsAs n (told_word w) (alone n owner 0 f p) answer × SameBeside (told_word v) (told_word w)
memory_taken n v w f owner p answer machine same telling d whole orderly ended got =
    let a = got_memory n machine v f owner p same telling d whole orderly w answer ended got in
    (a.ends, a.beside)

pub memory_given : (n : Machine) (v w : PortValue) (f : ℕ) (p : Plain) → v.post.machine ≡ n → is_telling v ≡ true → Describes n (told_word v) p → GaveType v w f Writable → Describes n (told_word w) (let_go 0 f p) × SameBeside (told_word v) (told_word w)
memory_given n v w f p same telling d gave =
    let a = gave_back n v w f Writable p same telling d refl gave.found in
    (subst (λ q. Describes n (told_word w) q) (sym (let_go_is f p)) a.frames, a.beside)

pub alone_stays_whole : (n : Machine) (owner f : ℕ) (p : Plain) → AreWhole n p → AreWhole n (alone n owner 0 f p).left × (f < n.frames → AreWhole n (let_go 0 f p))
alone_stays_whole n owner f p whole = (alone_whole n owner f p whole, λ inside. subst (λ q. AreWhole n q) (sym (let_go_is f p)) (given_whole n f Writable p inside whole))

-- ---- descriptor pages
pub desc_had : (n : Machine) (s : ℕ) (v w : PortValue) (f owner : ℕ) (x : Solo) (answer : Result ℕ Stop) → IsMachine n → v.post.machine ≡ n → is_telling v ≡ true → IsOrderly n (told_word v) → IsShown n s (told_word v) x →
    IsEnded answer → GotDesc v f owner w answer → EndsSo n s (told_word w) (get_page n owner f x) answer
desc_had n s v w f owner x answer machine same telling orderly is ended got = got_desc_so n s v f owner x machine same telling orderly is w answer ended got

pub desc_given : (n : Machine) (s : ℕ) (v w : PortValue) (f : ℕ) (x : Solo) → v.post.machine ≡ n → is_telling v ≡ true → IsShown n s (told_word v) x → DropsPlain v w f Desc → IsShown n s (told_word w) (with_frames (give_page f x.frames) x)
desc_given n s v w f x same telling is drops =
    let a = gave_back n v w f Desc x.frames same telling is.frames refl drops in
    shown_stays n s (told_word v) (told_word w) x (given f Desc x.frames) is a.beside a.frames (given_whole n f Desc x.frames a.inside is.whole)
