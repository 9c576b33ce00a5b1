-- Laws of the requests of a script.
use Rattle.std.specs.Prelude.{◌≡◌, ℕ, List, ◌++◌, Bool, false}
use Rattle.script_reader.specs.Requests.{AreRequests}
use Rattle.script_reader.specs.declared.request.Request.{Request}

-- a script has one list of requests
abbrev pub HasOneList : Type 0
HasOneList = (bytes : List ℕ) (ended : Bool) (requests others : List Request) → AreRequests bytes ended requests → AreRequests bytes ended others → requests ≡ others

-- the requests before the end are a front of those of every input that goes on from there
abbrev pub RequestsGoOn : Type 0
RequestsGoOn = (bytes more : List ℕ) (ended : Bool) (requests others : List Request) → AreRequests bytes false requests → AreRequests (bytes ++ more) ended others
    → (later : List Request) × (others ≡ requests ++ later)
