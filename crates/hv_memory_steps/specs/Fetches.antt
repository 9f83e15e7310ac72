-- The fetch of an instruction: what it is answered, and what it shows.
use Rattle.std.specs.Prelude.{◌≡◌, ℕ, Option, None, Some}
use Rattle.std.specs.Option.{option_map_or}
use Rattle.hv_answer.specs.declared.reply.Reply.{Reply}
use Rattle.hv_answer.specs.declared.reply.Reply.TheVariants as reply
use Rattle.hv_body.specs.declared.place.Answer.{Answer}
use Rattle.hv_body.specs.declared.place.Answer.TheVariants.{NotHere}
use Rattle.hv_rules.specs.Body.{BodyValue, fetch_from, word_of}
use Rattle.hv_step.specs.declared.step.Fetch.{Fetch}
use Rattle.hv_vcpu.specs.Vcpu.{VcpuValue}
use Rattle.hv_vcpu_steps.specs.Instructions.{fetches_at}

-- What a region answers to a hart's fetch: nothing is here where the VCPU doesn't fetch for the hart.
abbrev pub fetch_for : (hart : ℕ) → Fetch → VcpuValue → BodyValue → Answer
fetch_for hart s v body =
    option_map_or (fetch_from body s.generation.birth) (fetches_at hart s.generation.birth v) NotHere

-- A reply shows the word that was fetched, or that no region gave an instruction.
abbrev pub ShowsFetched : (word : Option ℕ) → Reply → Type 0
ShowsFetched None r = r ≡ reply.Fetch None
ShowsFetched (Some word) r = word_of r ≡ Some word
