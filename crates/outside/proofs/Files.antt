-- The files of a map from names to vectors.
use Rattle.std.proofs.Common.{◌≡◌, ℕ, Bool, true, false, cond, List, [], ◌∷◌, map, Option, Some, None, Vec, String, string_bytes, Bor, refl, sym, ap, ◌∙◌}
use Rattle.std.specs.Option.{option_map, option_copied}
use Rattle.std.specs.Ordering.{nat_cmp, is_eq, eq_by_cmp}
use Rattle.std.specs.Cmp.{eq_by_cmp_equiv}
use Rattle.std.specs.Cmp.Lexicographic.{slice_cmp, nat_list_cmp_total}
use Rattle.std.specs.String.{string_cmp}
use Rattle.std.specs.Str.{bytes_eq}
use Rattle.std.specs.Map.{lookup}
use Rattle.std.specs.BTreeMap.{BTreeMap, Updates, get_by_text, is_at}
use Rattle.std.specs.FinMap.{find, get, insert, get-from_entries, get-insert, same_map, slice_cmp-IsAntisymmetric, nat_cmp-IsAntisymmetric}
use Rattle.std.specs.declared.alloc.Global.{Global}
use Rattle.std.proofs.lemmas.Map.Text.{is_eq-slice_cmp, btree_map_updates_text}
use Rattle.outside.specs.Memory.{named, files_of}

-- the bytes in a vector that was found, where there is one
abbrev pub bytes_in : Option (Vec ℕ Global) → Option (List ℕ)
bytes_in found = option_map (λ bytes. bytes.items) found

bytes_in-cond : (b : Bool) (x y : Option (Vec ℕ Global)) → bytes_in (cond b x y) ≡ cond b (bytes_in x) (bytes_in y)
bytes_in-cond true x y = refl
bytes_in-cond false x y = refl

find-named : (name : List ℕ) (entries : List (String Global × Vec ℕ Global))
    → find (slice_cmp nat_cmp) name (map named entries) ≡ bytes_in (lookup (is_at (λ k. slice_cmp nat_cmp name (string_bytes k))) entries)
find-named name [] = refl
find-named name (entry ∷ entries) =
    ap (cond (is_eq (slice_cmp nat_cmp name (string_bytes entry.0))) (Some entry.1.items)) (find-named name entries)
    ∙ sym (bytes_in-cond (is_eq (slice_cmp nat_cmp name (string_bytes entry.0))) (Some entry.1) _)

-- a file is what the map finds by its name
pub get-files_of : (files : BTreeMap (String Global) (Vec ℕ Global)) (name : List ℕ) → get (files_of files) name ≡ bytes_in (get_by_text files name)
get-files_of files name = get-from_entries nat_list_cmp_total (map named files.entries) name ∙ find-named name files.entries

swapped : (x y : List ℕ) → eq_by_cmp (slice_cmp nat_cmp) x y ≡ bytes_eq y x
swapped x y = (eq_by_cmp_equiv nat_list_cmp_total).symm x y ∙ is_eq-slice_cmp y x

-- a vector that is put into the map is a file that is put among the files
pub files_of-insert : (old new : BTreeMap (String Global) (Vec ℕ Global)) (name : String Global) (bytes : Vec ℕ Global) → Updates string_cmp old new name (Some bytes)
    → files_of new ≡ insert (files_of old) (string_bytes name) bytes.items
files_of-insert old new name bytes updates =
    same_map nat_list_cmp_total (slice_cmp-IsAntisymmetric nat_cmp-IsAntisymmetric) _ _ (λ asked.
    get-files_of new asked
    ∙ ap bytes_in (btree_map_updates_text (string_bytes name) old new (Some bytes) updates asked)
    ∙ bytes_in-cond (bytes_eq (string_bytes name) asked) (Some bytes) (get_by_text old asked)
    ∙ ap (cond (bytes_eq (string_bytes name) asked) (Some bytes.items)) (sym (get-files_of old asked))
    ∙ ap (λ b. cond b (Some bytes.items) (get (files_of old) asked)) (sym (swapped asked (string_bytes name)))
    ∙ sym (get-insert nat_list_cmp_total (files_of old) (string_bytes name) bytes.items asked))

bytes_in-copied : (found : Option (Bor (Vec ℕ Global))) → option_map (λ bytes. bytes.now.items) found ≡ bytes_in (option_copied found)
bytes_in-copied None = refl
bytes_in-copied (Some bytes) = refl

-- a vector that is found by a name is the file of that name
pub found_file : (files : BTreeMap (String Global) (Vec ℕ Global)) (name : List ℕ) (found : Option (Bor (Vec ℕ Global))) → option_copied found ≡ get_by_text files name
    → option_map (λ bytes. bytes.now.items) found ≡ get (files_of files) name
found_file files name found e = bytes_in-copied found ∙ ap bytes_in e ∙ sym (get-files_of files name)
