-- How the answers of fetches lead to a reply, one fetch after another.
use Rattle.std.proofs.Common.{◌≡◌, ℕ, List, [], ◌∷◌, Option, Some, None, Ok, Err, refl, sym, ◌∙◌, subst}
use Rattle.outside.specs.Fetching.{MayAnswer, DeskView, desk_after}
use Rattle.outside.specs.declared.desk.Fetch.{Fetch}
use Rattle.outside.specs.declared.desk.Fetch.TheVariants.{Failed, Long, Memory}
use Rattle.planner_core.specs.declared.reply.Role.{Role}
use Rattle.planner_core.specs.Replies.{Said}
use Rattle.planner_core.specs.Works.{Work, Ends, Asks}
use Rattle.planner_core.specs.Sessions.{stopped, LedTo, Came}

-- The work ends with this reply.
pub led_last : (P : Said → Type 0) (said : Said) (desk : DeskView) → P said → LedTo (Ends P) desk desk said
led_last P said desk p = record { answers = []; asked = tt; replied = p; left = refl }

came_stop : (role : Role) (name : List ℕ) (next : List ℕ → Work) (why : Fetch) (old new : DeskView) → MayAnswer old.files name (Err why) → new ≡ desk_after old name (Err why) → Came (Asks role name next) old new (stopped role name why)
came_stop role name next Failed old new may after = record { answers = Err Failed ∷ []; asked = may; replied = refl; left = after }
came_stop role name next (Long count) old new may after = record { answers = Err (Long count) ∷ []; asked = may; replied = refl; left = after }
came_stop role name next Memory old new may after = after

-- A fetch hands over no bytes.
pub came_stopped : (role : Role) (name : List ℕ) (next : List ℕ → Work) (why : Fetch) (old new : DeskView) (said : Option Said) → said ≡ stopped role name why → MayAnswer old.files name (Err why) → new ≡ desk_after old name (Err why) → Came (Asks role name next) old new said
came_stopped role name next why old new said e may after =
    let P : Option Said → Type 0 = λ s. Came (Asks role name next) old new s in
    subst P (sym e) (came_stop role name next why old new may after)

-- A fetch hands over bytes, and the rest leads to this reply.
pub led_on : (role : Role) (name : List ℕ) (next : List ℕ → Work) (bytes : List ℕ) (old middle new : DeskView) (said : Said) → MayAnswer old.files name (Ok bytes) → middle ≡ old → LedTo (next bytes) middle new said → LedTo (Asks role name next) old new said
led_on role name next bytes old middle new said may same led =
    let P : DeskView → Type 0 = λ d. LedTo (next bytes) d new said in
    let rest : LedTo (next bytes) old new said = subst P same led in
    record { answers = Ok bytes ∷ rest.answers; asked = (may, rest.asked); replied = rest.replied; left = rest.left }

-- A fetch hands over bytes, and the rest comes to this.
pub came_on : (role : Role) (name : List ℕ) (next : List ℕ → Work) (bytes : List ℕ) (old middle new : DeskView) (said : Option Said) → MayAnswer old.files name (Ok bytes) → middle ≡ old → Came (next bytes) middle new said → Came (Asks role name next) old new said
came_on role name next bytes old middle new None may same came = came ∙ same
came_on role name next bytes old middle new (Some said) may same came = led_on role name next bytes old middle new said may same came
