-- SPDX-License-Identifier: Apache-2.0
pub mod Key
pub mod Bucket
pub mod Least
