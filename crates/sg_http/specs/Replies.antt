-- The texts of answers (this project's rules for connections).
use Rattle.std.specs.Prelude.{ℕ, List, [], ◌++◌, ◌==◌, length, codes, decimal, if◌then◌else◌, Option, None, Some}
use Rattle.sg_http.specs.declared.refusal.Refusal.{Refusal}
use Rattle.sg_http.specs.declared.refusal.Refusal.TheVariants as refusal
use Rattle.sg_http.specs.declared.refusal.Verb.{Verb}
use Rattle.sg_http.specs.Leads.{word_of}

-- the reason that stands behind a status number; none for another number
unfoldable pub reason_of : ℕ → List ℕ
reason_of status =
    if status == 200 then codes "OK"
    else if status == 400 then codes "Bad Request"
    else if status == 403 then codes "Forbidden"
    else if status == 404 then codes "Not Found"
    else if status == 405 then codes "Method Not Allowed"
    else if status == 409 then codes "Conflict"
    else if status == 411 then codes "Length Required"
    else if status == 413 then codes "Content Too Large"
    else if status == 422 then codes "Unprocessable Content"
    else if status == 431 then codes "Request Header Fields Too Large"
    else if status == 500 then codes "Internal Server Error"
    else if status == 503 then codes "Service Unavailable"
    else []

-- the line that names the route's method, where another was asked for
abbrev pub allow_text : Option Verb → List ℕ
allow_text None = []
allow_text (Some verb) = codes "Allow: " ++ word_of verb ++ codes "\r\n"

-- an answer: its lines, each with CR LF, an empty line, and the body
unfoldable pub answer_text : ℕ → Option Verb → List ℕ → List ℕ
answer_text status allow body =
    codes "HTTP/1.1 " ++ decimal status ++ codes " " ++ reason_of status
    ++ codes "\r\nContent-Type: application/json\r\nContent-Length: " ++ decimal (length body)
    ++ codes "\r\n" ++ allow_text allow ++ codes "Connection: close\r\n\r\n" ++ body

-- ---- the answers that are not the office's

abbrev pub refused_status : Refusal → ℕ
refused_status refusal.Head = 400
refused_status refusal.Headers = 431
refused_status refusal.Route = 404
refused_status (refusal.Method verb) = 405
refused_status refusal.NoLength = 411
refused_status refusal.BadLength = 400
refused_status refusal.Size = 413
refused_status refusal.Body = 400

abbrev pub refused_text : Refusal → List ℕ
refused_text refusal.Head = codes "{\"error\":\"head\",\"status\":400}"
refused_text refusal.Headers = codes "{\"error\":\"headers\",\"status\":431}"
refused_text refusal.Route = codes "{\"error\":\"route\",\"status\":404}"
refused_text (refusal.Method verb) = codes "{\"error\":\"method\",\"status\":405}"
refused_text refusal.NoLength = codes "{\"error\":\"length\",\"status\":411}"
refused_text refusal.BadLength = codes "{\"error\":\"length\",\"status\":400}"
refused_text refusal.Size = codes "{\"error\":\"size\",\"status\":413}"
refused_text refusal.Body = codes "{\"error\":\"body\",\"status\":400}"

-- the method that a refusal names
abbrev pub allowed_by : Refusal → Option Verb
allowed_by (refusal.Method verb) = Some verb
allowed_by _ = None

abbrev pub memory_text : List ℕ
memory_text = codes "{\"error\":\"memory\",\"status\":500}"
