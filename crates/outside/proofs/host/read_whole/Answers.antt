use Rattle.std.proofs.Common.{◌≡◌, ℕ, ◌<◌, ◌≤◌, List, [], ◌++◌, length, take, Option, Some, None, IfSome, subst, arith, ◌∙◌}
use Rattle.std.proofs.lemmas.List.{take_all, length-take}
use Rattle.std.specs.Option.{option_map}
use Rattle.std.specs.Io.Take.{take_limit, take_inner, take_remaining}
use Rattle.std.specs.declared.io.traits.Take.{Take}
use Rattle.outside.proofs.host.read_whole.Goals as goal

all_left : (left : Option (List ℕ)) (most : ℕ) (bytes : List ℕ) → IfSome (option_map (take most) left) (λ first. bytes ≡ first) → length bytes < most → IfSome left (λ all. bytes ≡ all)
all_left None most bytes first fewer = tt
all_left (Some all) most bytes same fewer =
    let short : length all ≤ most = omega (arith, length-take most all, rw same at fewer) in
    same ∙ take_all most all short

-- what a reader gave that was to give at most so many bytes and gave fewer is all that it had
all_of : {R : Type 0} (remaining : R → Option (List ℕ)) (part : Take R) (file : R) (most : ℕ) (start bytes : List ℕ)
    → take_limit part ≡ most → take_inner part ≡ file → start ≡ []
    → IfSome (take_remaining remaining part) (λ first. bytes ≡ start ++ first) → length bytes < most → IfSome (remaining file) (λ all. bytes ≡ all)
all_of {R = R} remaining part file most start bytes limit inner none first fewer =
    let P : ℕ → Type 0 = λ n. IfSome (option_map (take n) (remaining part.inner)) (λ first. bytes ≡ start ++ first) in
    let Q : R → Type 0 = λ f. IfSome (option_map (take most) (remaining f)) (λ first. bytes ≡ start ++ first) in
    let S : List ℕ → Type 0 = λ s. IfSome (option_map (take most) (remaining file)) (λ first. bytes ≡ s ++ first) in
    all_left (remaining file) most bytes (subst S none (subst Q inner (subst P limit first))) fewer

pub returns-in-Ok-2-clause-bytes : goal.returns-in-Ok-2-clause-bytes
returns-in-Ok-2-clause-bytes g c =
    all_of g.F.Read.remaining c.take.result c.args.file 1048577 c.new-bytes.result.items c.read_to_end.new.buf.items
    c.take.ensures.limit c.take.ensures.inner c.new-bytes.ensures.items c.in-Ok.ensures.bytes (omega arith)
