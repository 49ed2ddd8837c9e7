-- Files by their names.
use Rattle.std.proofs.Math.Seq.{drop-cons}
use Rattle.std.proofs.Common.{◌≡◌, ◌+◌, ◌<◌, ◌∙◌, ℕ, suc, Bool, true, false, List, [], ◌∷◌, Some, None, length, drop, get_or, cond, refl}
use Rattle.std.proofs.Common.{sym, ap, subst, add-one}
use Rattle.std.specs.Prelude.{Option, bytes_eq, slice_get, option_map, is_some, unwrap_or, IsSome, MatchOption}
use Rattle.std.proofs.lemmas.Bool.{eq-eqb}
use Rattle.std.proofs.lemmas.Option.{slice_get_read}
use Rattle.std.specs.Cmp.Lexicographic.{nat_list_cmp_total, texts_ties, same_text}
use Rattle.std.specs.FinMap.{get, insert, get-insert, same_map, nat_cmp-IsAntisymmetric, slice_cmp-IsAntisymmetric}
use Rattle.ec_space.specs.Listed.{Listed}
use Rattle.ec_io.specs.Disk.{Files, content}
use Rattle.ec_io.specs.MemFiles.{files_of, told_files, name_of, bytes_of, IsFirst, IsFound, Names}
use Rattle.ec_io.specs.declared.mem_file.MemFile.{MemFile}
use Rattle.ec_io.specs.InMemory.{input_of}
use Rattle.ec_io.specs.declared.mem_store.Place.{Place}
use Rattle.ec_io.specs.declared.mem_file.Source.{Source}
use Rattle.ec_io.specs.declared.mem_file.Source.TheVariants.{Given, Made}

pub content_inserted : (files : Files) (name bytes q : List ℕ)
    → get (insert files name bytes) q ≡ cond (bytes_eq q name) (Some bytes) (get files q)
content_inserted files name bytes q =
    get-insert nat_list_cmp_total files name bytes q ∙ ap (λ (b : Bool). cond b (Some bytes) (get files q)) (sym (texts_ties q name))

-- the file at i is the first of what is left
first_is : (files : List MemFile) (i : ℕ) (f : MemFile) → i < length files → f ≡ get_or files i f → drop i files ≡ f ∷ drop (i + 1) files
first_is files i f within here = rw add-one (drop-cons files i f within ∙ ap (λ (g : MemFile). g ∷ drop (suc i) files) (sym here))

pub get-first : (files : List MemFile) (i : ℕ) (f : MemFile) (name : List ℕ) → i < length files → f ≡ get_or files i f
    → get (files_of (drop i files)) name ≡ cond (bytes_eq name f.name.items) (Some f.bytes.items) (get (files_of (drop (i + 1) files)) name)
get-first files i f name within here =
    ap (λ (fs : List MemFile). get (files_of fs) name) (first_is files i f within here) ∙ content_inserted _ _ _ name

pub found_at : (files : List MemFile) (i : ℕ) (f : MemFile) (name : List ℕ) → i < length files → f ≡ get_or files i f
    → get (files_of files) name ≡ get (files_of (drop i files)) name → bytes_eq name f.name.items ≡ true → IsFirst files name i
found_at files i f name within here so_far same =
    let at : slice_get files i ≡ Some f = slice_get_read files (length files) i f refl within here in
    record {
      named = rw at (ap Some (sym (same_text name f.name.items (sym same))));
      bytes = rw at (sym (so_far ∙ get-first files i f name within here
          ∙ ap (λ (b : Bool). cond b (Some f.bytes.items) (get (files_of (drop (i + 1) files)) name)) same));
    }

pub skipped_at : (files : List MemFile) (i : ℕ) (f : MemFile) (name : List ℕ) → i < length files → f ≡ get_or files i f
    → get (files_of files) name ≡ get (files_of (drop i files)) name → bytes_eq name f.name.items ≡ false
    → get (files_of files) name ≡ get (files_of (drop (i + 1) files)) name
skipped_at files i f name within here so_far other =
    so_far ∙ get-first files i f name within here
    ∙ ap (λ (b : Bool). cond b (Some f.bytes.items) (get (files_of (drop (i + 1) files)) name)) other

-- another name than that of the created file stands for the same with it
pub told_other : (files : List MemFile) (made : MemFile) (name : List ℕ) (found : Option Source) → bytes_eq name made.name.items ≡ false
    → MatchOption found (get (files_of files) name ≡ None) (IsFound files name)
    → MatchOption found (get (told_files files made true) name ≡ None) (Names files made true name)
told_other files made name None other h =
    content_inserted (files_of files) made.name.items made.bytes.items name
    ∙ ap (λ (b : Bool). cond b (Some made.bytes.items) (get (files_of files) name)) other ∙ h
told_other files made name (Some (Given i)) other h = (h, other)
told_other files made name (Some Made) other h = absurd h

pub text_itself : (xs : List ℕ) → bytes_eq xs xs ≡ true
text_itself [] = refl
text_itself (x ∷ xs) = rw (eq-eqb x x refl) (text_itself xs)

-- a named file's bytes are those that its name stands for
pub bytes_told : (files : List MemFile) (made : MemFile) (stands : Bool) (name : List ℕ) (source : Source)
    → Names files made stands name source → bytes_of files made source ≡ get (told_files files made stands) name
bytes_told files made true name (Given i) h =
    h.0.bytes ∙ sym (content_inserted (files_of files) made.name.items made.bytes.items name
    ∙ ap (λ (b : Bool). cond b (Some made.bytes.items) (get (files_of files) name)) h.1)
bytes_told files made false name (Given i) h = h.0.bytes
bytes_told files made stands name Made h =
    rw (h.0, ← h.1) (sym (content_inserted (files_of files) made.name.items made.bytes.items made.name.items
    ∙ ap (λ (b : Bool). cond b (Some made.bytes.items) (get (files_of files) made.name.items)) (text_itself made.name.items)))

-- a file that is put in again changes nothing
pub same_inserted : (files : Files) (name bytes : List ℕ) → get files name ≡ Some bytes → insert files name bytes ≡ files
same_inserted files name bytes here = same_map nat_list_cmp_total (slice_cmp-IsAntisymmetric nat_cmp-IsAntisymmetric) _ _
    (λ q. content_inserted files name bytes q ∙ put_again q (bytes_eq q name) refl) where
      put_again : (q : List ℕ) (b : Bool) → bytes_eq q name ≡ b → cond b (Some bytes) (get files q) ≡ get files q
      put_again q true e = rw (same_text q name (sym e)) (sym here)
      put_again q false e = refl

-- the given files, with the created one put in as it is among them
pub told_given : (files : List MemFile) (made : MemFile) (stands : Bool) (held : Option (List ℕ))
    → get (files_of files) made.name.items ≡ held → stands ≡ is_some held → made.bytes.items ≡ unwrap_or held []
    → told_files files made stands ≡ files_of files
told_given files made stands None here is bytes = rw is refl
told_given files made stands (Some held) here is bytes = rw (is, bytes) (same_inserted (files_of files) made.name.items held here)

-- a named file has its name, and stands
pub name_told : (files : List MemFile) (made : MemFile) (stands : Bool) (name : List ℕ) (source : Source)
    → Names files made stands name source → name_of files made source ≡ Some name
name_told files made stands name (Given i) h = h.0.named
name_told files made stands name Made h = ap Some h.1

named_some : (found : Option MemFile) (name : List ℕ) → option_map (λ f. f.name.items) found ≡ Some name
    → IsSome (option_map (λ f. f.bytes.items) found)
named_some None name h = cc
named_some (Some f) name h = refl

source_some : (files : List MemFile) (made : MemFile) (stands : Bool) (name : List ℕ) (source : Source)
    → Names files made stands name source → IsSome (bytes_of files made source)
source_some files made stands name (Given i) h = named_some (slice_get files i) name h.0.named
source_some files made stands name Made h = refl

pub there_told : (files : List MemFile) (made : MemFile) (stands : Bool) (name : List ℕ) (source : Source)
    → Names files made stands name source → IsSome (get (told_files files made stands) name)
there_told files made stands name source h =
    subst IsSome (bytes_told files made stands name source h) (source_some files made stands name source h)

-- a file that stands also stands after another was put in
pub there_inserted : (files : Files) (name bytes q : List ℕ) → IsSome (get files q) → IsSome (get (insert files name bytes) q)
there_inserted files name bytes q there = subst IsSome (sym (content_inserted files name bytes q)) (either (bytes_eq q name)) where
  either : (b : Bool) → IsSome (cond b (Some bytes) (get files q))
  either true = refl
  either false = there

-- a file that is put in twice is the one put in last
pub twice_inserted : (files : Files) (name first last : List ℕ) → insert (insert files name first) name last ≡ insert files name last
twice_inserted files name first last = same_map nat_list_cmp_total (slice_cmp-IsAntisymmetric nat_cmp-IsAntisymmetric) _ _
    (λ q. content_inserted (insert files name first) name last q
    ∙ ap (λ (o : Option (List ℕ)). cond (bytes_eq q name) (Some last) o) (content_inserted files name first q)
    ∙ collapse (bytes_eq q name) (get files q) ∙ sym (content_inserted files name last q)) where
      collapse : (b : Bool) (o : Option (List ℕ)) → cond b (Some last) (cond b (Some first) o) ≡ cond b (Some last) o
      collapse true o = refl
      collapse false o = refl

pub content_told : (files : List MemFile) (made : MemFile) (stands : Bool) (name : List ℕ) (source : Source) (bytes : List ℕ)
    → Names files made stands name source → bytes_of files made source ≡ Some bytes → content (told_files files made stands) name ≡ bytes
content_told files made stands name source bytes h e =
    ap (λ (o : Option (List ℕ)). unwrap_or o []) (sym (bytes_told files made stands name source h) ∙ e)

-- what the created file holds instead does not matter where it is put in again
pub put_again : (files : List MemFile) (made : MemFile) (stands : Bool) (bytes : List ℕ)
    → insert (told_files files made stands) made.name.items bytes ≡ insert (files_of files) made.name.items bytes
put_again files made true bytes = twice_inserted (files_of files) made.name.items made.bytes.items bytes
put_again files made false bytes = refl

pub input_renewed : (files : List MemFile) (made : MemFile) (bytes : Listed ℕ) (input : Option Place)
    → input_of files (record { name = made.name; bytes = bytes }) input ≡ input_of files made input
input_renewed files made bytes None = refl
input_renewed files made bytes (Some place) = ap (λ (o : Option (List ℕ)). Some (unwrap_or o [], place.at)) (renewed place.source) where
  renewed : (source : Source) → name_of files (record { name = made.name; bytes = bytes }) source ≡ name_of files made source
  renewed (Given i) = refl
  renewed Made = refl

pub held_made : (files : List MemFile) (made : MemFile) (stands : Bool) → stands ≡ true
    → content (told_files files made stands) made.name.items ≡ made.bytes.items
held_made files made stands is = rw is (ap (λ (o : Option (List ℕ)). unwrap_or o [])
    (content_inserted (files_of files) made.name.items made.bytes.items made.name.items
    ∙ ap (λ (b : Bool). cond b (Some made.bytes.items) (get (files_of files) made.name.items)) (text_itself made.name.items)))

-- the same files stand whatever the created one holds
pub there_renewed : (files : List MemFile) (made : MemFile) (bytes : Listed ℕ) (stands : Bool) (q : List ℕ)
    → IsSome (get (told_files files made stands) q) → IsSome (get (told_files files (record { name = made.name; bytes = bytes }) stands) q)
there_renewed files made bytes false q there = there
there_renewed files made bytes true q there =
    subst IsSome (sym (content_inserted (files_of files) made.name.items bytes.items q))
    (either (bytes_eq q made.name.items) (subst IsSome (content_inserted (files_of files) made.name.items made.bytes.items q) there)) where
      either : (b : Bool) → IsSome (cond b (Some made.bytes.items) (get (files_of files) q))
          → IsSome (cond b (Some bytes.items) (get (files_of files) q))
      either true there = refl
      either false there = there
