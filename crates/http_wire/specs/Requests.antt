-- Requests: GET over HTTP/1.1 (RFC 9112 section 3), with the fields that are sent. 13 and 10 end a line.
use Rattle.std.specs.Prelude.{ℕ, List, [], ◌∷◌, ◌++◌, codes}

-- up to the target
abbrev pub request_front : List ℕ
request_front = codes "GET "

-- from the target to the authority
abbrev pub request_middle : List ℕ
request_middle = codes " HTTP/1.1" ++ (13 ∷ 10 ∷ codes "Host: ")

-- behind the authority
abbrev pub request_end : List ℕ
request_end =
    13 ∷ 10 ∷ (codes "Accept: */*" ++ (13 ∷ 10 ∷ (codes "Accept-Encoding: identity"
    ++ (13 ∷ 10 ∷ (codes "Connection: close" ++ (13 ∷ 10 ∷ 13 ∷ 10 ∷ []))))))

-- the bytes that ask an authority for a target
abbrev pub request_of : List ℕ → List ℕ → List ℕ
request_of authority target = request_front ++ (target ++ (request_middle ++ (authority ++ request_end)))
